-- Degrees and noises of a legal net and of its folded net.
use Rattle.std.proofs.Common.{◌≡◌, ℕ, ℤ, pos, ◌≤ℤ◌, ◌<ℤ◌, suc, ◌+◌, ◌<◌, ◌≤◌, true, List, [], ◌∷◌, ◌++◌, length, get_or, take, refl, sym, ◌∙◌, ap, subst, arith, length-take-le}
use Rattle.std.specs.List.{AllByRecursion}
use Rattle.std.proofs.lemmas.List.{get_or_default, append-nil, append_assoc}
use Rattle.rx_laws.specs.Decode.{plaintexts}
use Rattle.rx_params.specs.Derived.{noise_limit}
use Rattle.rx_net.specs.declared.term.Term.{Term}
use Rattle.rx_net.specs.declared.net.Job.{Job}
use Rattle.rx_net.specs.declared.net.NetInput.{NetInput}
use Rattle.rx_net.specs.declared.net.Net.{Net}
use Rattle.rx_net.specs.Cells.{given, declared_degree, unit_noise, degrees_after, noises_after}
use Rattle.rx_net.specs.Legal.{InTurn, IsJob, Legal, reached}
use Rattle.rx_net.proofs.Each.{all_map}
use Rattle.rx_net.proofs.Faults.{turn_at}
use Rattle.rx_net.proofs.Inputs.{length-given, given_degree, given_noise, job_degree_at, job_noise_at}
use Rattle.rx_fold.specs.Jobs.{moved, AreEqual, job_at, no_job}
use Rattle.rx_fold.specs.Folded.{input_count, merged, rep, is_kept, numbered, anew, folded_jobs}
use Rattle.rx_fold.proofs.Numbering.{numbered_lt}
use Rattle.rx_fold.proofs.Facts.{all_moved, forward, merged_is, rep_in, rep_of, rep_le, rep_equal, by_cell, kept_named, stands_for}
use Rattle.rx_fold.proofs.Transfers.{Obeys, reads_same, laid_front, Alike, rep_same, Placed, number_inputs, place_of, job_of, reach, reach_reads, low_same, high_same, noise_same, reached_same}

pub all_two : {P Q R : Term → Type 0} (ts : List Term) → ((t : Term) → P t → Q t → R t) → AllByRecursion P ts → AllByRecursion Q ts → AllByRecursion R ts
all_two [] f g h = tt
all_two (t ∷ ts) f g h = (f t g.0 h.0, all_two ts f g.1 h.1)

pub turn_from : {A : Type 0} (Lawful : List A → A → Type 0) (d : A) (before xs : List A) → ((i : ℕ) → i < length xs → Lawful (before ++ take i xs) (get_or xs i d)) → InTurn Lawful before xs
turn_from Lawful d before [] h = tt
turn_from Lawful d before (x ∷ xs) h = (
  subst (λ zs. Lawful zs x) (append-nil before) (h 0 (omega arith)),
  turn_from Lawful d (before ++ x ∷ []) xs (λ i b. subst (λ zs. Lawful zs (get_or xs i d)) (sym (append_assoc before (x ∷ []) (take i xs))) (h (suc i) (omega arith))),
)

same_job : (x y : Job) → AreEqual x y → x.degree ≡ y.degree → x ≡ y
same_job x y e f =
    ap (λ (ts : List Term). let z : Job = record { terms = ts; constant = x.constant; table = x.table; degree = x.degree } in z) e.terms
    ∙ ap (λ (k : ℤ). let z : Job = record { terms = y.terms; constant = k; table = x.table; degree = x.degree } in z) e.constant
    ∙ ap (λ (t : List ℕ). let z : Job = record { terms = y.terms; constant = y.constant; table = t; degree = x.degree } in z) e.table
    ∙ ap (λ (d : ℕ). let z : Job = record { terms = y.terms; constant = y.constant; table = y.table; degree = d } in z) f

module _ (net : Net) (l : Legal net) where
  abbrev pub degrees : List ℕ
  degrees = degrees_after net.space net.inputs net.jobs

  abbrev pub noises : List ℕ
  noises = noises_after net.space net.inputs net.jobs

  abbrev pub new_degrees : List ℕ
  new_degrees = degrees_after net.space net.inputs (folded_jobs net)

  abbrev pub new_noises : List ℕ
  new_noises = noises_after net.space net.inputs (folded_jobs net)

  pub job_lawful : (i : ℕ) → i < length net.jobs → IsJob net.space net.inputs (take i net.jobs) (job_at net.jobs i)
  job_lawful i b = turn_at (IsJob net.space net.inputs) [] net.jobs l.jobs i (job_at net.jobs i) b (get_or_default net.jobs i no_job (job_at net.jobs i) b)

  degrees_front : (jobs : List Job) (i c : ℕ) → i < length jobs → c < input_count net + i → get_or (degrees_after net.space net.inputs (take i jobs)) c 0 ≡ get_or (degrees_after net.space net.inputs jobs) c 0
  unfolding degrees_after
  degrees_front jobs i c b w = let n = length-given net.space (λ (x : NetInput). x.degree) net.inputs in
      laid_front 0 declared_degree (given net.space (λ i. i.degree) net.inputs) jobs i c b (omega arith)

  noises_front : (jobs : List Job) (i c : ℕ) → i < length jobs → c < input_count net + i → get_or (noises_after net.space net.inputs (take i jobs)) c 0 ≡ get_or (noises_after net.space net.inputs jobs) c 0
  unfolding noises_after
  noises_front jobs i c b w = let n = length-given net.space (λ (x : NetInput). x.noise) net.inputs in
      laid_front 0 unit_noise (given net.space (λ i. i.noise) net.inputs) jobs i c b (omega arith)

  pub degree_at : (i : ℕ) → i < length net.jobs → get_or degrees (input_count net + i) 0 ≡ (job_at net.jobs i).degree
  degree_at i b = job_degree_at net.space net.inputs net.jobs (input_count net + i) i no_job refl b

  degrees_obey : Obeys 0 reach (input_count net) net.jobs degrees
  unfolding Obeys
  degrees_obey i b = degree_at i b ∙ (job_lawful i b).declared
      ∙ reads_same 0 reach reach_reads (job_at net.jobs i) (degrees_after net.space net.inputs (take i net.jobs)) degrees
      (all_map (λ (t : Term). t.cell < input_count net + i) (λ (t : Term). get_or (degrees_after net.space net.inputs (take i net.jobs)) t.cell 0 ≡ get_or degrees t.cell 0) (job_at net.jobs i).terms
      (λ t w. degrees_front net.jobs i t.cell b w) (forward net l i b))

  degrees_alike : Alike net l 0 reach reach_reads degrees degrees_obey
  unfolding Alike
  degrees_alike a b _ _ e =
      let f = λ (c : ℕ). get_or degrees c 0 in
      let x : Job = job_at (merged net) a in
      let y : Job = job_at (merged net) b in
      ap (λ (ts : List Term). reached f ts x.constant x.table) e.terms
      ∙ ap (λ (k : ℤ). reached f y.terms k x.table) e.constant
      ∙ ap (λ (t : List ℕ). reached f y.terms y.constant t) e.table

  pub degree_rep : (c : ℕ) → c < input_count net + length net.jobs → get_or degrees (rep net c) 0 ≡ get_or degrees c 0
  degree_rep c b = rep_same net l 0 reach reach_reads degrees degrees_obey degrees_alike c b

  -- equal jobs over what stands for their cells are one job
  pub equal_jobs : (a b : ℕ) → a < length net.jobs → b < length net.jobs → AreEqual (job_at (merged net) a) (job_at (merged net) b) → job_at (merged net) a ≡ job_at (merged net) b
  equal_jobs a b v w e =
      let x : Job = job_at (merged net) a in
      let y : Job = job_at (merged net) b in
      let da : x.degree ≡ get_or degrees (input_count net + a) 0 = ap (λ (j : Job). j.degree) (merged_is net l a v) ∙ sym (degree_at a v) in
      let db : y.degree ≡ get_or degrees (input_count net + b) 0 = ap (λ (j : Job). j.degree) (merged_is net l b w) ∙ sym (degree_at b w) in
      let r : get_or degrees (input_count net + a) 0 ≡ get_or degrees (input_count net + b) 0 =
      sym (degree_rep (input_count net + a) (omega arith)) ∙ ap (λ (c : ℕ). get_or degrees c 0) (rep_equal net l a b e) ∙ degree_rep (input_count net + b) (omega arith) in
      same_job x y e (da ∙ r ∙ sym db)

  noise_at : (i : ℕ) → i < length net.jobs → get_or noises (input_count net + i) 0 ≡ 1
  noise_at i b = job_noise_at net.space net.inputs net.jobs (input_count net + i) i no_job refl b

  pub noise_rep : (c : ℕ) → c < input_count net + length net.jobs → get_or noises (rep net c) 0 ≡ get_or noises c 0
  noise_rep c b = by_cell net l (λ (c : ℕ). get_or noises (rep net c) 0 ≡ get_or noises c 0) (λ c b. ap (λ (x : ℕ). get_or noises x 0) (rep_in net l c b))
      (λ i b. let s = stands_for net l i b in let e = s.earlier in
      ap (λ (x : ℕ). get_or noises x 0) (rep_of net l i b) ∙ noise_at s.job (omega arith) ∙ sym (noise_at i b)) c b

  -- ---- the same in the folded net

  degree_kept : (c : ℕ) → c < input_count net + length net.jobs → is_kept net c ≡ true → get_or new_degrees (numbered (is_kept net) c) 0 ≡ get_or degrees c 0
  degree_kept c b = by_cell net l (λ (c : ℕ). is_kept net c ≡ true → get_or new_degrees (numbered (is_kept net) c) 0 ≡ get_or degrees c 0)
      (λ c b h. ap (λ (x : ℕ). get_or new_degrees x 0) (number_inputs net l c (omega arith)) ∙ given_degree net.space net.inputs (folded_jobs net) c b ∙ sym (given_degree net.space net.inputs net.jobs c b))
      (λ i b h. let q = place_of net l i b h in let p = q.1 in
      ap (λ (x : ℕ). get_or new_degrees x 0) p.number ∙ job_degree_at net.space net.inputs (folded_jobs net) (input_count net + q.0) q.0 no_job refl p.place
      ∙ ap (λ (j : Job). j.degree) p.is ∙ sym (degree_at i b)) c b

  noise_kept : (c : ℕ) → c < input_count net + length net.jobs → is_kept net c ≡ true → get_or new_noises (numbered (is_kept net) c) 0 ≡ get_or noises c 0
  noise_kept c b = by_cell net l (λ (c : ℕ). is_kept net c ≡ true → get_or new_noises (numbered (is_kept net) c) 0 ≡ get_or noises c 0)
      (λ c b h. ap (λ (x : ℕ). get_or new_noises x 0) (number_inputs net l c (omega arith)) ∙ given_noise net.space net.inputs (folded_jobs net) c b ∙ sym (given_noise net.space net.inputs net.jobs c b))
      (λ i b h. let q = place_of net l i b h in let p = q.1 in
      ap (λ (x : ℕ). get_or new_noises x 0) p.number ∙ job_noise_at net.space net.inputs (folded_jobs net) (input_count net + q.0) q.0 no_job refl p.place ∙ sym (noise_at i b)) c b

  pub degree_anew : (c : ℕ) → c < input_count net + length net.jobs → is_kept net (rep net c) ≡ true → get_or new_degrees (anew net c) 0 ≡ get_or degrees c 0
  unfolding anew
  degree_anew c b h = let r = rep_le net l c b in degree_kept (rep net c) (omega arith) h ∙ degree_rep c b

  pub noise_anew : (c : ℕ) → c < input_count net + length net.jobs → is_kept net (rep net c) ≡ true → get_or new_noises (anew net c) 0 ≡ get_or noises c 0
  unfolding anew
  noise_anew c b h = let r = rep_le net l c b in noise_kept (rep net c) (omega arith) h ∙ noise_rep c b

  -- ---- the jobs of the folded net are lawful

  -- the new numbers of a job's cells are below its own
  pub anew_below : (i p : ℕ) → Placed net i p → AllByRecursion (λ (t : Term). anew net t.cell < input_count net + p) (job_at net.jobs i).terms
  unfolding anew
  anew_below i p q = all_two (job_at net.jobs i).terms
      (λ t f k. let b = q.job in let r = rep_le net l t.cell (omega arith) in let n = q.number in
      let h = numbered_lt (is_kept net) (rep net t.cell) (input_count net + i) (omega arith) k in omega arith)
      (forward net l i q.job) (kept_named net l i q.job q.kept)

  module _ (i p : ℕ) (q : Placed net i p) where
    abbrev terms : List Term
    terms = (job_at net.jobs i).terms

    abbrev old_degree : ℕ → ℕ
    old_degree c = get_or (degrees_after net.space net.inputs (take i net.jobs)) c 0

    abbrev old_noise : ℕ → ℕ
    old_noise c = get_or (noises_after net.space net.inputs (take i net.jobs)) c 0

    abbrev new_degree : ℕ → ℕ
    new_degree c = get_or (degrees_after net.space net.inputs (take p (folded_jobs net))) c 0

    abbrev new_noise : ℕ → ℕ
    new_noise c = get_or (noises_after net.space net.inputs (take p (folded_jobs net))) c 0

    record AtTerm (t : Term) : Type 0 where
      below : anew net t.cell < input_count net + p
      early : t.cell < input_count net + i

    at_terms : AllByRecursion AtTerm terms
    at_terms = all_two terms (λ t b f. record { below = b; early = f }) (anew_below i p q) (forward net l i q.job)

    degrees_agree : AllByRecursion (λ (t : Term). new_degree (anew net t.cell) ≡ old_degree t.cell) terms
    degrees_agree = all_two terms (λ t a k. let e = a.early in let w = q.job in
        degrees_front (folded_jobs net) p (anew net t.cell) q.place a.below ∙ degree_anew t.cell (omega arith) k ∙ sym (degrees_front net.jobs i t.cell q.job a.early))
        at_terms (kept_named net l i q.job q.kept)

    noises_agree : AllByRecursion (λ (t : Term). new_noise (anew net t.cell) ≡ old_noise t.cell) terms
    noises_agree = all_two terms (λ t a k. let e = a.early in let w = q.job in
        noises_front (folded_jobs net) p (anew net t.cell) q.place a.below ∙ noise_anew t.cell (omega arith) k ∙ sym (noises_front net.jobs i t.cell q.job a.early))
        at_terms (kept_named net l i q.job q.kept)

    moved_lawful : IsJob net.space net.inputs (take p (folded_jobs net)) (moved (anew net) (job_at net.jobs i))
    moved_lawful =
        let j : Job = job_at net.jobs i in
        let is = job_lawful i q.job in
        let place = q.place in
        let n : input_count net + p ≡ input_count net + length (take p (folded_jobs net)) = (let e = length-take-le p (folded_jobs net) (omega arith) in omega arith) in
        record {
          fits = record {
            forward = all_moved (λ (c : ℕ). c < input_count net + length (take p (folded_jobs net))) (anew net) terms
                (subst (λ (m : ℕ). AllByRecursion (λ (t : Term). anew net t.cell < m) terms) n (anew_below i p q));
            low = subst (λ (z : ℤ). pos 0 ≤ℤ z) (sym (low_same (anew net) new_degree old_degree terms degrees_agree j.constant)) is.fits.low;
            high = subst (λ (z : ℤ). z <ℤ pos (plaintexts net.space)) (sym (high_same (anew net) new_degree old_degree terms degrees_agree j.constant)) is.fits.high;
            noise_in = subst (λ (m : ℕ). m ≤ noise_limit net.space) (sym (noise_same (anew net) new_noise old_noise terms noises_agree)) is.fits.noise_in;
            table_count = is.fits.table_count;
            table_entries = is.fits.table_entries;
          };
          declared = is.declared ∙ sym (reached_same (anew net) new_degree old_degree terms degrees_agree j.constant j.table);
        }

  pub new_lawful : (p : ℕ) → p < length (folded_jobs net) → IsJob net.space net.inputs (take p (folded_jobs net)) (job_at (folded_jobs net) p)
  new_lawful p b = let q = job_of net l p b in
      subst (λ (j : Job). IsJob net.space net.inputs (take p (folded_jobs net)) j) (sym q.1.is) (moved_lawful q.0 p q.1)
