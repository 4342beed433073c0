-- Lists with an entry for each cell, entry after entry.
use Rattle.std.proofs.Common.{◌≡◌, ℕ, suc, ◌+◌, ◌<◌, inl, inr, cond, List, [], ◌∷◌, ◌++◌, length, get_or, take, Some, is_some, refl, sym, ◌∙◌, ap, subst, arith, length-append, length-take-le}
use Rattle.std.specs.Option.{option_map_or}
use Rattle.std.specs.List.{AllByRecursion, position_or_len}
use Rattle.std.specs.Ordering.{is_eq}
use Rattle.std.specs.BTreeMap.{BTreeMap, get, IsEmpty}
use Rattle.std.proofs.lemmas.Bool.{cases_lt}
use Rattle.std.proofs.lemmas.List.{get_or_append_left, get_or_push}
use Rattle.std.proofs.Math.Seq.{take-suc}
use Rattle.rx_net.specs.declared.term.Term.{Term}
use Rattle.rx_net.specs.declared.net.Job.{Job}
use Rattle.rx_net.specs.Cells.{laid}
use Rattle.rx_net.proofs.Each.{all_map}
use Rattle.rx_net.proofs.Laid.{laid-last}
use Rattle.rx_fold.specs.declared.keys.Key.{Key}
use Rattle.rx_fold.specs.Jobs.{moved, AreEqual, are_equal, no_job}
use Rattle.rx_fold.specs.Folded.{rep_among, merged_by}
use Rattle.rx_fold.specs.Passes.{Tells, cell_in, job_of, key_cmp, TellsFirsts}
use Rattle.rx_fold.proofs.Equal.{moved_agree}
use Rattle.rx_fold.proofs.Stand.{rep_input, rep_job, rep_stays, length-merged}
use Rattle.rx_fold.proofs.Firsts.{firsts_more, first_found}

module _ {A : Type 0} (d : A) where
  pub tells_none : (f : ℕ → A) (xs : List A) → xs ≡ [] → Tells d f 0 xs
  tells_none f xs e = record { count = ap length e; each = λ c l. absurd (omega arith) }

  pub tells_more : (f : ℕ → A) (n : ℕ) (xs ys : List A) (x : A) → Tells d f n xs → ys ≡ xs ++ x ∷ [] → x ≡ f n → Tells d f (n + 1) ys
  tells_more f n xs ys x t e h = subst (Tells d f (n + 1)) (sym e) record {
    count = let a = length-append xs (x ∷ []) in let b = t.count in omega arith;
    each = λ c l. elim (cases_lt c n) [
      | inl lt ↦ get_or_append_left xs (x ∷ []) d c (let b = t.count in omega arith) ∙ t.each c lt
      | inr ge ↦ let s : n ≡ c = omega arith in get_or_push xs x d c (let b = t.count in omega arith) ∙ h ∙ ap f s
    ];
  }

  pub tells_same : (f g : ℕ → A) (n : ℕ) (xs : List A) → Tells d f n xs → ((c : ℕ) → c < n → f c ≡ g c) → Tells d g n xs
  tells_same f g n xs t h = record { count = t.count; each = λ c l. t.each c l ∙ h c l }

-- what is found for the first jobs
pub record HasFound (n : ℕ) (jobs : List Job) (i : ℕ) (cells : List ℕ) (known : BTreeMap Key ℕ) : Type 0 where
  pub reps : Tells 0 (rep_among n (merged_by n (take i jobs))) (n + i) cells
  pub firsts : TellsFirsts n (merged_by n (take i jobs)) known

pub found_none : (n : ℕ) (jobs : List Job) (reps : List ℕ) (firsts : BTreeMap Key ℕ) → Tells 0 (λ c. c) n reps → IsEmpty firsts → HasFound n jobs 0 reps firsts
unfolding merged_by laid
found_none n jobs reps firsts t e =
    let z : n ≡ n + 0 = omega arith in record {
      reps = subst (λ (k : ℕ). Tells 0 (rep_among n []) k reps) z (tells_same 0 (λ c. c) (rep_among n []) n reps t (λ c l. sym (rep_input n [] c l)));
      firsts = λ k. rw e refl;
    }

merged_more : (n : ℕ) (jobs : List Job) (i : ℕ) (job : Job) → i < length jobs → job ≡ get_or jobs i job
    → merged_by n (take (i + 1) jobs) ≡ merged_by n (take i jobs) ++ moved (rep_among n (merged_by n (take i jobs))) job ∷ []
unfolding merged_by
merged_more n jobs i job l e =
    let one : suc i ≡ i + 1 = omega arith in
    let cut : take (i + 1) jobs ≡ take i jobs ++ job ∷ [] = sym (ap (λ (k : ℕ). take k jobs) one) ∙ take-suc jobs i job l ∙ ap (λ (j : Job). take i jobs ++ j ∷ []) (sym e) in
    ap (laid (λ (job : Job) (m : List Job). moved (rep_among n m) job) []) cut ∙ laid-last (λ (job : Job) (m : List Job). moved (rep_among n m) job) [] (take i jobs) job

-- the key is that of the job
pub found_more : (n : ℕ) (jobs : List Job) (i : ℕ) (reps : List ℕ) (firsts : BTreeMap Key ℕ) (job : Job) (key : Key) (cell first : ℕ) (more : List ℕ) (new : BTreeMap Key ℕ)
    → HasFound n jobs i reps firsts → i < length jobs → job ≡ get_or jobs i job → AllByRecursion (λ (t : Term). t.cell < n + i) job.terms
    → AreEqual (job_of key) (moved (cell_in reps) job) → cell ≡ length reps → first ≡ option_map_or (λ f. f) (get key_cmp firsts key) cell
    → ((k : Key) → get key_cmp new k ≡ cond (is_some (get key_cmp firsts key)) (get key_cmp firsts k) (cond (is_eq (key_cmp key k)) (Some cell) (get key_cmp firsts k)))
    → more ≡ reps ++ first ∷ [] → HasFound n jobs (i + 1) more new
found_more n jobs i reps firsts job key cell first more new found l e forward equal c f known pushed =
    let m : List Job = merged_by n (take i jobs) in
    let x : Job = moved (rep_among n m) job in
    let next : merged_by n (take (i + 1) jobs) ≡ m ++ x ∷ [] = merged_more n jobs i job l e in
    let len : length m ≡ i = (let a = length-merged n (take i jobs) in let b = length-take-le i jobs (omega arith) in omega (arith, a, b)) in
    let moves : moved (cell_in reps) job ≡ x = moved_agree (cell_in reps) (rep_among n m) job
    (all_map (λ (t : Term). t.cell < n + i) (λ (t : Term). cell_in reps t.cell ≡ rep_among n m t.cell) job.terms (λ t b. found.reps.each t.cell b) forward) in
    let equals : AreEqual (job_of key) x = subst (AreEqual (job_of key)) moves equal in
    let at : cell ≡ n + length m = (let a = found.reps.count in omega (arith, a, c, len)) in
    let own : first ≡ rep_among n (m ++ x ∷ []) (n + i) =
    first_found n m x firsts key cell first found.firsts equals at f
    ∙ sym (rep_job n (m ++ x ∷ []) i ∙ ap (λ (y : Job). n + position_or_len (are_equal y) (m ++ x ∷ [])) (get_or_push m x no_job i len)) in
    let older : Tells 0 (rep_among n (m ++ x ∷ [])) (n + i) reps =
    tells_same 0 (rep_among n m) (rep_among n (m ++ x ∷ [])) (n + i) reps found.reps (λ c b. sym (rep_stays n m (x ∷ []) c (omega (arith, b, len)))) in
    let z : n + i + 1 ≡ n + (i + 1) = omega arith in record {
      reps = subst (λ (k : ℕ). Tells 0 (rep_among n (merged_by n (take (i + 1) jobs))) k more) z
          (subst (λ (ms : List Job). Tells 0 (rep_among n ms) (n + i + 1) more) (sym next) (tells_more 0 (rep_among n (m ++ x ∷ [])) (n + i) reps more first older pushed own));
      firsts = subst (λ (ms : List Job). TellsFirsts n ms new) (sym next) (firsts_more n m x firsts new key cell found.firsts equals at known);
    }
