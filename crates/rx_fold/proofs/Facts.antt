-- What stands for what in a legal net, what is live, and what is kept.
use Rattle.std.proofs.Common.{◌≡◌, ℕ, ◌+◌, ◌-◌, ◌<◌, ◌≤◌, ◌⊎◌, inl, inr, true, false, List, [], ◌∷◌, ◌++◌, length, map, sym, ◌∙◌, ap, subst, arith}
use Rattle.std.specs.Prelude.{◌&&◌, ◌==◌, nat_lt, nat_le, not, IsTrue}
use Rattle.std.specs.List.{AllByRecursion, list_any}
use Rattle.std.proofs.lemmas.Bool.{cases_lt, and_parts, eqb-true, eq-eqb, lt-ltb, le-ltb}
use Rattle.std.proofs.lemmas.List.{get_or_default}
use Rattle.rx_params.specs.Kinds.{greatest, block_count, is_form}
use Rattle.rx_net.specs.declared.term.Term.{Term}
use Rattle.rx_net.specs.declared.net.Job.{Job}
use Rattle.rx_net.specs.declared.net.NetOutput.{NetOutput}
use Rattle.rx_net.specs.declared.net.Net.{Net}
use Rattle.rx_net.specs.Cells.{cell_count, degree}
use Rattle.rx_net.specs.Legal.{Legal, InTurn, is_output, are_cells, names_output}
use Rattle.rx_net.proofs.Each.{all_map, all_append}
use Rattle.rx_net.proofs.Faults.{all_from_test}
use Rattle.rx_net.proofs.Fits.{nat_lt_yes}
use Rattle.rx_net.proofs.Evaluates.{job_forward}
use Rattle.rx_fold.specs.Jobs.{moved_term, moved, AreEqual, job_at, no_job}
use Rattle.rx_fold.specs.Folded.{input_count, merged, rep, names, names_any, cells_given, is_live, is_kept}
use Rattle.rx_fold.proofs.Stand.{Stands, stands, rep_input, same_rep, merged_at, length-merged}
use Rattle.rx_fold.proofs.Needs.{or_left, or_right, and_both, or_which, not_both, Forward, forward_from, named_by, each_named, each_of, needed_given, needed_named, needed_why, needed_least, NamedLater}

-- ---- lists of cells that are replaced

pub all_moved : (P : ℕ → Type 0) (f : ℕ → ℕ) (ts : List Term) → AllByRecursion (λ (t : Term). P (f t.cell)) ts → AllByRecursion (λ (t : Term). P t.cell) (map (moved_term f) ts)
all_moved P f [] h = tt
all_moved P f (t ∷ ts) h = (h.0, all_moved P f ts h.1)

pub named_moved : (f : ℕ → ℕ) (ts : List Term) (x : ℕ) → list_any (λ (t : Term). t.cell == x) ts ≡ true → list_any (λ (t : Term). t.cell == f x) (map (moved_term f) ts) ≡ true
named_moved f [] x h = h
named_moved f (t ∷ ts) x h = elim (or_which (t.cell == x) (list_any (λ (u : Term). u.cell == x) ts) h) [
  | inl here ↦ or_left (f t.cell == f x) (list_any (λ (u : Term). u.cell == f x) (map (moved_term f) ts)) (eq-eqb (f t.cell) (f x) (ap f (eqb-true t.cell x here)))
  | inr later ↦ or_right (f t.cell == f x) (list_any (λ (u : Term). u.cell == f x) (map (moved_term f) ts)) (named_moved f ts x later)
]

pub any_moved : (f : ℕ → ℕ) (cs : List ℕ) (x : ℕ) → names_any cs x ≡ true → names_any (map f cs) (f x) ≡ true
any_moved f [] x h = h
any_moved f (c ∷ cs) x h = elim (or_which (c == x) (list_any (λ (d : ℕ). d == x) cs) h) [
  | inl here ↦ or_left (f c == f x) (list_any (λ (d : ℕ). d == f x) (map f cs)) (eq-eqb (f c) (f x) (ap f (eqb-true c x here)))
  | inr later ↦ or_right (f c == f x) (list_any (λ (d : ℕ). d == f x) (map f cs)) (any_moved f cs x later)
]

pub any_by : (P : ℕ → Type 0) (cs : List ℕ) (x : ℕ) → names_any cs x ≡ true → AllByRecursion P cs → P x
any_by P [] x h all = absurd (let g : false ≡ true = h in cc)
any_by P (c ∷ cs) x h all = elim (or_which (c == x) (list_any (λ (d : ℕ). d == x) cs) h) [
  | inl here ↦ subst P (eqb-true c x here) all.0
  | inr later ↦ any_by P cs x later all.1
]

pub all_mapped : (P : ℕ → Type 0) (f : ℕ → ℕ) (cs : List ℕ) → AllByRecursion (λ (c : ℕ). P (f c)) cs → AllByRecursion P (map f cs)
all_mapped P f [] h = tt
all_mapped P f (c ∷ cs) h = (h.0, all_mapped P f cs h.1)

-- ---- outputs

outputs_within : (space count : ℕ) (degree : ℕ → ℕ) (before os : List NetOutput) → InTurn (λ before o. IsTrue (is_output space count degree before o)) before os
    → AllByRecursion (λ (c : ℕ). c < count) (cells_given os)
outputs_within space count degree before [] h = tt
outputs_within space count degree before (o ∷ os) h =
    let most : ℕ = greatest o.kind space in
    let a = and_parts (is_form space o.kind o.bits) ((length o.cells == block_count o.kind space o.bits) && (not (names_output o.name before) && are_cells count degree most o.cells)) h.0 in
    let b = and_parts (length o.cells == block_count o.kind space o.bits) (not (names_output o.name before) && are_cells count degree most o.cells) a.1 in
    let d = and_parts (not (names_output o.name before)) (are_cells count degree most o.cells) b.1 in
    all_append (λ (c : ℕ). c < count) o.cells (cells_given os)
    (all_from_test (λ (c : ℕ). nat_lt c count && nat_le (degree c) most) (λ (c : ℕ). c < count) (λ c p. nat_lt_yes c count (and_parts (nat_lt c count) (nat_le (degree c) most) p).0) o.cells d.1)
    (outputs_within space count degree (before ++ o ∷ []) os h.1)

module _ (net : Net) (l : Legal net) where
  abbrev pub inputs : ℕ
  inputs = input_count net

  abbrev pub count : ℕ
  count = input_count net + length net.jobs

  pub given_within : AllByRecursion (λ (c : ℕ). c < count) (cells_given net.outputs)
  unfolding cell_count
  given_within = outputs_within net.space (cell_count net) (degree net) [] net.outputs l.outputs

  pub forward : (i : ℕ) → i < length net.jobs → AllByRecursion (λ (t : Term). t.cell < inputs + i) (job_at net.jobs i).terms
  forward i b = job_forward net l i (job_at net.jobs i) b (get_or_default net.jobs i no_job (job_at net.jobs i) b)

  pub merged_is : (i : ℕ) → i < length net.jobs → job_at (merged net) i ≡ moved (rep net) (job_at net.jobs i)
  unfolding rep
  merged_is i b = merged_at inputs net.jobs i b (forward i b)

  pub merged_count : length (merged net) ≡ length net.jobs
  merged_count = length-merged inputs net.jobs

  -- ---- what stands for a cell
  pub rep_in : (c : ℕ) → c < inputs → rep net c ≡ c
  unfolding rep
  rep_in c b = rep_input inputs (merged net) c b

  pub stands_for : (i : ℕ) → i < length net.jobs → Stands inputs (merged net) i
  stands_for i b = stands inputs (merged net) i (let e = merged_count in omega arith)

  pub rep_of : (i : ℕ) (b : i < length net.jobs) → rep net (inputs + i) ≡ inputs + (stands_for i b).job
  unfolding rep
  rep_of i b = (stands_for i b).is

  pub by_cell : (P : ℕ → Type 0) → ((c : ℕ) → c < inputs → P c) → ((i : ℕ) → i < length net.jobs → P (inputs + i)) → (c : ℕ) → c < count → P c
  by_cell P of_input of_job c b = elim (cases_lt c inputs) [
    | inl lt ↦ of_input c lt
    | inr le ↦ let e : inputs + (c - inputs) ≡ c = omega arith in subst P e (of_job (c - inputs) (omega arith))
  ]

  pub rep_le : (c : ℕ) → c < count → rep net c ≤ c
  rep_le c b = by_cell (λ (c : ℕ). rep net c ≤ c) (λ c b. let e = rep_in c b in omega arith)
      (λ i b. let e = rep_of i b in let h = (stands_for i b).earlier in omega arith) c b

  pub rep_rep : (c : ℕ) → c < count → rep net (rep net c) ≡ rep net c
  unfolding rep
  rep_rep c b = by_cell (λ (c : ℕ). rep net (rep net c) ≡ rep net c) (λ c b. ap (rep net) (rep_in c b))
      (λ i b. ap (rep net) (rep_of i b) ∙ (stands_for i b).itself ∙ sym (rep_of i b)) c b

  pub rep_equal : (i k : ℕ) → AreEqual (job_at (merged net) i) (job_at (merged net) k) → rep net (inputs + i) ≡ rep net (inputs + k)
  unfolding rep
  rep_equal i k e = same_rep inputs (merged net) i k e

  pub merged_forward : Forward inputs (merged net)
  merged_forward = forward_from inputs (merged net) (λ i b. let b' : i < length net.jobs = (let e = merged_count in omega arith) in
      subst (λ (j : Job). AllByRecursion (λ (t : Term). t.cell < inputs + i) j.terms) (sym (merged_is i b'))
      (all_moved (λ (c : ℕ). c < inputs + i) (rep net) (job_at net.jobs i).terms
      (all_map (λ (t : Term). t.cell < inputs + i) (λ (t : Term). rep net t.cell < inputs + i) (job_at net.jobs i).terms
      (λ t b. let h = rep_le t.cell (omega arith) in omega arith) (forward i b'))))

  -- ---- what is live
  pub live_given : (c : ℕ) → names_any (cells_given net.outputs) c ≡ true → is_live net (rep net c) ≡ true
  unfolding is_live
  live_given c h = needed_given (map (rep net) (cells_given net.outputs)) inputs (merged net) (rep net c) (any_moved (rep net) (cells_given net.outputs) c h)

  pub live_named : (i : ℕ) → i < length net.jobs → is_live net (inputs + i) ≡ true → (x : ℕ) → names (job_at net.jobs i) x ≡ true → is_live net (rep net x) ≡ true
  unfolding is_live
  live_named i b h x n =
      needed_named (map (rep net) (cells_given net.outputs)) inputs (merged net) merged_forward i (rep net x) (let e = merged_count in omega arith) h
      (subst (λ (j : Job). names j (rep net x) ≡ true) (sym (merged_is i b)) (named_moved (rep net) (job_at net.jobs i).terms x n))

  pub live_why : (x : ℕ) → is_live net x ≡ true → (names_any (map (rep net) (cells_given net.outputs)) x ≡ true) ⊎ NamedLater (map (rep net) (cells_given net.outputs)) inputs (merged net) x
  unfolding is_live
  live_why x h = needed_why (map (rep net) (cells_given net.outputs)) inputs (merged net) merged_forward x h

  -- what holds what stands for the cells of the outputs and, with a job's cell, what stands for the cells of its terms, holds each live cell
  pub live_least : (P : ℕ → Type 0) → ((c : ℕ) → names_any (cells_given net.outputs) c ≡ true → P (rep net c))
      → ((i : ℕ) → i < length net.jobs → P (inputs + i) → (x : ℕ) → names (job_at net.jobs i) x ≡ true → P (rep net x)) → (x : ℕ) → is_live net x ≡ true → P x
  unfolding is_live
  live_least P given closed x h =
      needed_least (map (rep net) (cells_given net.outputs)) inputs (merged net) merged_forward P
      (λ x n. any_by P (map (rep net) (cells_given net.outputs)) x n (all_mapped P (rep net) (cells_given net.outputs) (each_of (λ (c : ℕ). P (rep net c)) (cells_given net.outputs) given)))
      (λ i x b p n. let b' : i < length net.jobs = (let e = merged_count in omega arith) in
      named_by P (moved (rep net) (job_at net.jobs i)).terms x (subst (λ (j : Job). names j x ≡ true) (merged_is i b') n)
      (all_moved P (rep net) (job_at net.jobs i).terms (each_named (λ (c : ℕ). P (rep net c)) (job_at net.jobs i).terms (closed i b' p))))
      x h

  pub live_rep : (x : ℕ) → is_live net x ≡ true → rep net x ≡ x
  live_rep x h = live_least (λ (x : ℕ). rep net x ≡ x)
      (λ c n. rep_rep c (any_by (λ (c : ℕ). c < count) (cells_given net.outputs) c n given_within))
      (λ i b p x n. rep_rep x (let f : x < inputs + i = named_by (λ (c : ℕ). c < inputs + i) (job_at net.jobs i).terms x n (forward i b) in omega arith)) x h

  -- ---- what is kept
  pub kept_in : (c : ℕ) → c < inputs → is_kept net c ≡ true
  unfolding is_kept
  kept_in c b = or_left (nat_lt c inputs) ((rep net c == c) && is_live net c) (lt-ltb c inputs b)

  pub kept_live : (c : ℕ) → is_live net c ≡ true → is_kept net c ≡ true
  unfolding is_kept
  kept_live c h = or_right (nat_lt c inputs) ((rep net c == c) && is_live net c)
      (and_both (rep net c == c) (is_live net c) (eq-eqb (rep net c) c (live_rep c h)) h)

  pub live_kept : (i : ℕ) → is_kept net (inputs + i) ≡ true → is_live net (inputs + i) ≡ true
  unfolding is_kept
  live_kept i h = elim (or_which (nat_lt (inputs + i) inputs) ((rep net (inputs + i) == (inputs + i)) && is_live net (inputs + i)) h) [
    | inl low ↦ absurd (not_both (nat_lt (inputs + i) inputs) low (le-ltb (inputs + i) inputs (omega arith)))
    | inr both ↦ (and_parts (rep net (inputs + i) == (inputs + i)) (is_live net (inputs + i)) both).1
  ]

  pub kept_rep : (c : ℕ) → c < count → is_kept net c ≡ true → rep net c ≡ c
  kept_rep c b h = by_cell (λ (c : ℕ). is_kept net c ≡ true → rep net c ≡ c) (λ c b h. rep_in c b) (λ i b h. live_rep (inputs + i) (live_kept i h)) c b h

  -- what stands for an output's cell is kept, and with a job what stands for the cells of its terms
  pub kept_given : AllByRecursion (λ (c : ℕ). is_kept net (rep net c) ≡ true) (cells_given net.outputs)
  kept_given = each_of (λ (c : ℕ). is_kept net (rep net c) ≡ true) (cells_given net.outputs) (λ c n. kept_live (rep net c) (live_given c n))

  pub kept_named : (i : ℕ) → i < length net.jobs → is_kept net (inputs + i) ≡ true → AllByRecursion (λ (t : Term). is_kept net (rep net t.cell) ≡ true) (job_at net.jobs i).terms
  kept_named i b h = each_named (λ (c : ℕ). is_kept net (rep net c) ≡ true) (job_at net.jobs i).terms
      (λ x n. kept_live (rep net x) (live_named i b (live_kept i h) x n))
