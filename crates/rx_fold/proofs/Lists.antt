-- The passes over a legal net find what its folded net is made of.
use Rattle.std.proofs.Common.{◌≡◌, ℕ, zero, suc, ◌+◌, ◌<◌, Bool, true, false, cond, List, [], ◌∷◌, ◌++◌, length, get_or, map, refl, sym, ◌∙◌, ap, subst, arith}
use Rattle.std.specs.Prelude.{◌==◌, ◌||◌, ◌&&◌, nat_lt}
use Rattle.std.specs.List.{AllByRecursion}
use Rattle.std.proofs.lemmas.List.{ext_get_or, get_or-map, length-map}
use Rattle.rx_net.specs.declared.term.Term.{Term}
use Rattle.rx_net.specs.declared.net.Job.{Job}
use Rattle.rx_net.specs.declared.net.NetOutput.{NetOutput}
use Rattle.rx_net.specs.declared.net.Net.{Net}
use Rattle.rx_net.specs.Legal.{Legal}
use Rattle.rx_net.proofs.Each.{all_map}
use Rattle.rx_net.proofs.Limits.{few_input_cells}
use Rattle.rx_fold.specs.Jobs.{moved, moved_output, job_at, no_job}
use Rattle.rx_fold.specs.Folded.{input_count, merged, rep, rep_among, merged_by, is_needed, cells_given, is_live, is_kept, numbered, kept_of, anew, folded_jobs}
use Rattle.rx_fold.specs.Passes.{Tells, cell_in, is_marked, AreWithin, AreForward}
use Rattle.rx_fold.proofs.Equal.{moved_agree}
use Rattle.rx_fold.proofs.Facts.{count, forward, given_within, merged_is, merged_count, rep_le}

-- ---- functions that agree on cells

numbered_agree : (f g : ℕ → Bool) (c : ℕ) → ((x : ℕ) → x < c → f x ≡ g x) → numbered f c ≡ numbered g c
unfolding numbered
numbered_agree f g zero h = refl
numbered_agree f g (suc c) h =
    let e = numbered_agree f g c (λ x l. h x (omega arith)) in
    λ i. cond (h c (omega arith) i) (suc (e i)) (e i)

kept_agree : (kept kept' : ℕ → Bool) (f g : ℕ → ℕ) (c : ℕ) (js : List Job) → ((i : ℕ) → i < length js → kept (c + i) ≡ kept' (c + i))
    → ((i : ℕ) → i < length js → moved f (job_at js i) ≡ moved g (job_at js i)) → map (moved f) (kept_of kept c js) ≡ map (moved g) (kept_of kept' c js)
unfolding kept_of
kept_agree kept kept' f g c [] h k = refl
kept_agree kept kept' f g c (j ∷ js) h k =
    let z : c + 0 ≡ c = omega arith in
    let own : kept c ≡ kept' c = subst (λ (x : ℕ). kept x ≡ kept' x) z (h 0 (omega arith)) in
    let rest : map (moved f) (kept_of kept (suc c) js) ≡ map (moved g) (kept_of kept' (suc c) js) = kept_agree kept kept' f g (suc c) js
    (λ i l. let s : c + suc i ≡ suc c + i = omega arith in subst (λ (x : ℕ). kept x ≡ kept' x) s (h (suc i) (omega arith)))
    (λ i l. k (suc i) (omega arith)) in
    ap (λ (b : Bool). map (moved f) (cond b (j ∷ kept_of kept (suc c) js) (kept_of kept (suc c) js))) own ∙ by_test (kept' c) (k 0 (omega arith)) rest
  where
    by_test : (b : Bool) → moved f j ≡ moved g j → map (moved f) (kept_of kept (suc c) js) ≡ map (moved g) (kept_of kept' (suc c) js)
        → map (moved f) (cond b (j ∷ kept_of kept (suc c) js) (kept_of kept (suc c) js)) ≡ map (moved g) (cond b (j ∷ kept_of kept' (suc c) js) (kept_of kept' (suc c) js))
    by_test true e r = λ i. e i ∷ r i
    by_test false e r = r

cells_agree : (f g : ℕ → ℕ) (cs : List ℕ) → AllByRecursion (λ (c : ℕ). f c ≡ g c) cs → map f cs ≡ map g cs
cells_agree f g [] h = refl
cells_agree f g (c ∷ cs) h = λ i. h.0 i ∷ cells_agree f g cs h.1 i

all_parts : (P : ℕ → Type 0) (xs ys : List ℕ) → AllByRecursion P (xs ++ ys) → AllByRecursion P xs × AllByRecursion P ys
all_parts P [] ys h = (tt, h)
all_parts P (x ∷ xs) ys h = let p = all_parts P xs ys h.1 in ((h.0, p.0), p.1)

outputs_agree : (f g : ℕ → ℕ) (os : List NetOutput) → AllByRecursion (λ (c : ℕ). f c ≡ g c) (cells_given os) → map (moved_output f) os ≡ map (moved_output g) os
outputs_agree f g [] h = refl
outputs_agree f g (o ∷ os) h =
    let p = all_parts (λ (c : ℕ). f c ≡ g c) o.cells (cells_given os) h in
    let own = cells_agree f g o.cells p.0 in
    ap (λ (cs : List ℕ). (let x : NetOutput = record { name = o.name; kind = o.kind; bits = o.bits; cells = cs } in x) ∷ map (moved_output f) os) own
    ∙ ap (λ (xs : List NetOutput). moved_output g o ∷ xs) (outputs_agree f g os p.1)

-- the cells of one output
pub given_at : (P : ℕ → Type 0) (os : List NetOutput) (i : ℕ) (o : NetOutput) → AllByRecursion P (cells_given os) → i < length os → o ≡ get_or os i o → AllByRecursion P o.cells
given_at P [] i o h l e = absurd (omega arith)
given_at P (x ∷ os) zero o h l e = subst (λ (y : NetOutput). AllByRecursion P y.cells) (sym e) (all_parts P x.cells (cells_given os) h).0
given_at P (x ∷ os) (suc i) o h l e = given_at P os i o (all_parts P x.cells (cells_given os) h).1 (omega arith) e

-- ---- the passes over a net

module _ (net : Net) (l : Legal net) where
  pub few : input_count net + length net.jobs < 4294967296
  few = let a = few_input_cells net l.limits in let b = l.limits.few_jobs in omega (arith, a, b)

  module _ (reps : List ℕ) (r : Tells 0 (rep net) (count net l) reps) where
    pub within : AreWithin reps
    within c b = let n = r.count in let e = r.each c (omega arith) in let h = rep_le net l c (omega arith) in omega arith

    pub given_in : AllByRecursion (λ (c : ℕ). c < length reps) (cells_given net.outputs)
    given_in = all_map (λ (c : ℕ). c < count net l) (λ (c : ℕ). c < length reps) (cells_given net.outputs) (λ c b. let n = r.count in omega arith) (given_within net l)

    moved_is : map (moved (cell_in reps)) net.jobs ≡ merged net
    moved_is = ext_get_or no_job (map (moved (cell_in reps)) net.jobs) (merged net) (let a = length-map net.jobs (moved (cell_in reps)) in let b = merged_count net l in omega arith)
        (λ i b. let w : i < length net.jobs = (let a = length-map net.jobs (moved (cell_in reps)) in omega arith) in
        get_or-map (moved (cell_in reps)) net.jobs i no_job no_job w
        ∙ moved_agree (cell_in reps) (rep net) (job_at net.jobs i) (all_map (λ (t : Term). t.cell < input_count net + i) (λ (t : Term). cell_in reps t.cell ≡ rep net t.cell) (job_at net.jobs i).terms
        (λ t f. r.each t.cell (omega arith)) (forward net l i w))
        ∙ sym (merged_is net l i w))

    given_is : map (cell_in reps) (cells_given net.outputs) ≡ map (rep net) (cells_given net.outputs)
    given_is = cells_agree (cell_in reps) (rep net) (cells_given net.outputs)
        (all_map (λ (c : ℕ). c < count net l) (λ (c : ℕ). cell_in reps c ≡ rep net c) (cells_given net.outputs) (λ c b. r.each c b) (given_within net l))

    module _ (live : List Bool)
        (v : Tells false (is_needed (map (cell_in reps) (cells_given net.outputs)) (input_count net) (map (moved (cell_in reps)) net.jobs)) (length reps) live) where
      pub live_is : (c : ℕ) → c < count net l → is_marked live c ≡ is_live net c
      unfolding is_live
      live_is c b = v.each c (let n = r.count in omega arith) ∙ (λ i. is_needed (given_is i) (input_count net) (moved_is i) c)

      module _ (kept : List Bool)
          (k : Tells false (λ c. nat_lt c (input_count net) || ((cell_in reps c == c) && is_marked live c)) (length reps) kept) where
        pub kept_is : (c : ℕ) → c < count net l → is_marked kept c ≡ is_kept net c
        unfolding is_kept
        kept_is c b = k.each c (let n = r.count in omega arith) ∙ (λ i. nat_lt c (input_count net) || ((r.each c b i == c) && live_is c b i))

        module _ (news : List ℕ) (w : Tells 0 (λ c. numbered (is_marked kept) (cell_in reps c)) (length reps) news) where
          pub anew_is : (c : ℕ) → c < count net l → cell_in news c ≡ anew net c
          unfolding anew
          anew_is c b = w.each c (let n = r.count in omega arith) ∙ ap (numbered (is_marked kept)) (r.each c b)
              ∙ numbered_agree (is_marked kept) (is_kept net) (rep net c) (λ x y. kept_is x (let h = rep_le net l c b in omega arith))

          pub jobs_are : map (moved (cell_in news)) (kept_of (is_marked kept) (input_count net) net.jobs) ≡ folded_jobs net
          unfolding folded_jobs
          jobs_are = kept_agree (is_marked kept) (is_kept net) (cell_in news) (anew net) (input_count net) net.jobs (λ i b. kept_is (input_count net + i) (omega arith))
              (λ i b. moved_agree (cell_in news) (anew net) (job_at net.jobs i) (all_map (λ (t : Term). t.cell < input_count net + i) (λ (t : Term). cell_in news t.cell ≡ anew net t.cell) (job_at net.jobs i).terms
              (λ t f. anew_is t.cell (omega arith)) (forward net l i b)))

          pub outputs_are : map (moved_output (cell_in news)) net.outputs ≡ map (moved_output (anew net)) net.outputs
          outputs_are = outputs_agree (cell_in news) (anew net) net.outputs
              (all_map (λ (c : ℕ). c < count net l) (λ (c : ℕ). cell_in news c ≡ anew net c) (cells_given net.outputs) (λ c b. anew_is c b) (given_within net l))

  -- the cells of outputs are entries of a list as long
  pub given_to : (reps : List ℕ) → Tells 0 (rep net) (count net l) reps → (xs : List ℕ) (outputs : List NetOutput) → length xs ≡ length reps → outputs ≡ net.outputs
      → AllByRecursion (λ (c : ℕ). c < length xs) (cells_given outputs)
  given_to reps r xs outputs e g = subst (λ (z : ℕ × List NetOutput). AllByRecursion (λ (c : ℕ). c < z.0) (cells_given z.1)) (λ i. (sym e i, sym g i)) (given_in reps r)

-- ---- what the passes are given and give, in the words of the net

module _ (net : Net) (l : Legal net) (n : ℕ) (jobs : List Job) (outputs : List NetOutput) (e : n ≡ input_count net) (f : jobs ≡ net.jobs) (g : outputs ≡ net.outputs) where
  pub few_in : n + length jobs < 4294967296
  few_in = let a = few net l in let b : length jobs ≡ length net.jobs = ap (λ (js : List Job). length js) f in omega (arith, a, b, e)

  pub forward_in : AreForward n jobs
  forward_in = subst (λ (z : ℕ × List Job). AreForward z.0 z.1) (λ i. (sym e i, sym f i)) (forward net l)

  pub reps_in : (reps : List ℕ) → Tells 0 (rep_among n (merged_by n jobs)) (n + length jobs) reps → Tells 0 (rep net) (count net l) reps
  unfolding rep
  reps_in reps t =
      let u : Tells 0 (rep_among (input_count net) (merged net)) (input_count net + length net.jobs) reps =
      subst (λ (z : ℕ × List Job). Tells 0 (rep_among z.0 (merged_by z.0 z.1)) (z.0 + length z.1) reps) (λ i. (e i, f i)) t in
      record { count = u.count; each = u.each }

  pub live_in : (reps xs : List ℕ) (live : List Bool) → xs ≡ reps → Tells false (is_needed (map (cell_in xs) (cells_given outputs)) n (map (moved (cell_in xs)) jobs)) (length xs) live
      → Tells false (is_needed (map (cell_in reps) (cells_given net.outputs)) (input_count net) (map (moved (cell_in reps)) net.jobs)) (length reps) live
  live_in reps xs live h t = subst (λ (z : ℕ × List Job × List NetOutput × List ℕ). Tells false (is_needed (map (cell_in z.3) (cells_given z.2)) z.0 (map (moved (cell_in z.3)) z.1)) (length z.3) live)
      (λ i. (e i, f i, g i, h i)) t

  pub kept_in : (reps xs : List ℕ) (live vs kept : List Bool) → xs ≡ reps → vs ≡ live → Tells false (λ c. nat_lt c n || ((cell_in xs c == c) && is_marked vs c)) (length xs) kept
      → Tells false (λ c. nat_lt c (input_count net) || ((cell_in reps c == c) && is_marked live c)) (length reps) kept
  kept_in reps xs live vs kept h k t = subst (λ (z : ℕ × List ℕ × List Bool). Tells false (λ c. nat_lt c z.0 || ((cell_in z.1 c == c) && is_marked z.2 c)) (length z.1) kept) (λ i. (e i, h i, k i)) t

  pub cells_in : (reps xs : List ℕ) (kept ks : List Bool) (news : List ℕ) → xs ≡ reps → ks ≡ kept → Tells 0 (λ c. numbered (is_marked ks) (cell_in xs c)) (length xs) news
      → Tells 0 (λ c. numbered (is_marked kept) (cell_in reps c)) (length reps) news
  cells_in reps xs kept ks news h k t = subst (λ (z : List ℕ × List Bool). Tells 0 (λ c. numbered (is_marked z.1) (cell_in z.0 c)) (length z.0) news) (λ i. (h i, k i)) t

  pub jobs_in : (kept ks : List Bool) (news ns : List ℕ) (js : List Job) → ks ≡ kept → ns ≡ news → js ≡ map (moved (cell_in ns)) (kept_of (is_marked ks) n jobs)
      → js ≡ map (moved (cell_in news)) (kept_of (is_marked kept) (input_count net) net.jobs)
  jobs_in kept ks news ns js h k t = t ∙ (λ i. map (moved (cell_in (k i))) (kept_of (is_marked (h i)) (e i) (f i)))

  pub outputs_in : (news ns : List ℕ) (os : List NetOutput) → ns ≡ news → os ≡ map (moved_output (cell_in ns)) outputs → os ≡ map (moved_output (cell_in news)) net.outputs
  outputs_in news ns os k t = t ∙ (λ i. map (moved_output (cell_in (k i))) (g i))
