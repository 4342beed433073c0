-- The folded net of a legal net: it is legal and folded, has no greater depth, and gives the same.
use Rattle.std.proofs.Common.{◌≡◌, ℕ, ℤ, suc, ◌+◌, ◌-◌, ◌<◌, ◌≤◌, ◌⊎◌, inl, inr, Bool, true, List, [], ◌∷◌, ◌++◌, length, get_or, drop, map, refl, sym, ◌∙◌, ap, subst, arith}
use Rattle.std.specs.Prelude.{◌||◌, ◌&&◌, ◌==◌, nat_lt, nat_le, not, IsTrue}
use Rattle.std.specs.List.{AllByRecursion, list_any}
use Rattle.std.specs.Str.{bytes_eq}
use Rattle.std.proofs.lemmas.Bool.{cases_lt, and_parts}
use Rattle.std.proofs.lemmas.List.{length-map, get_or_default}
use Rattle.rx_params.specs.Kinds.{greatest, block_count, is_form}
use Rattle.rx_net.specs.declared.term.Term.{Term}
use Rattle.rx_net.specs.declared.net.Job.{Job}
use Rattle.rx_net.specs.declared.net.NetInput.{NetInput}
use Rattle.rx_net.specs.declared.net.NetOutput.{NetOutput}
use Rattle.rx_net.specs.declared.net.Net.{Net}
use Rattle.rx_net.specs.Tags.{greatest_of}
use Rattle.rx_net.specs.Numbers.{number_of, values_of, outs}
use Rattle.rx_net.specs.Cells.{cell_count, given, laid, job_value, one_deeper, values_after, degrees_after, noises_after, depths_after, degree, noise, net_depth, Within, cells_of}
use Rattle.rx_net.specs.Legal.{InTurn, IsJob, Legal, is_output, are_cells, names_output}
use Rattle.rx_net.proofs.Bounded.{greatest_at}
use Rattle.rx_net.proofs.Evaluates.{job_few}
use Rattle.rx_net.proofs.Fits.{nat_lt_is}
use Rattle.rx_net.proofs.Inputs.{length-given}
use Rattle.rx_net.proofs.Laid.{length-laid, laid_before}
use Rattle.rx_fold.specs.Jobs.{moved_term, moved, moved_output, AreEqual, job_at, no_job}
use Rattle.rx_fold.specs.Folded.{input_count, merged, rep, names, names_any, cells_given, is_needed, is_live, is_kept, numbered, kept_of, anew, folded_jobs, folded}
use Rattle.rx_fold.specs.Laws.{IsFolded, ReadsWeights, words_given, Folds}
use Rattle.rx_fold.proofs.Needs.{and_both, named_by, forward_at}
use Rattle.rx_fold.proofs.Numbering.{length-kept, numbered_lt, numbered_once, numbered_most}
use Rattle.rx_fold.proofs.Facts.{all_moved, named_moved, any_moved, given_within, forward, merged_is, merged_count, merged_forward, rep_le, rep_equal, live_why, live_kept, kept_live, kept_rep, kept_given, kept_named}
use Rattle.rx_fold.proofs.Transfers.{Reads, Obeys, laid_obeys, Alike, rep_same, Placed, number_inputs, place_of, job_of, kept_below, anew_same, value_reads, depth_reads, words_step, words_reads}
use Rattle.rx_fold.proofs.Tags.{turn_from, equal_jobs, degree_anew, noise_anew, anew_below, new_lawful}

-- ---- what a step lays, in a legal net and in its folded net

module _ (net : Net) (l : Legal net) {A : Type 0} (d : A) (step : Job → List A → A) (reads : Reads d step) (ins : List A) (n : length ins ≡ input_count net) where
  abbrev old_cells : List A
  old_cells = laid step ins net.jobs

  abbrev new_cells : List A
  new_cells = laid step ins (folded_jobs net)

  old_obey : Obeys d step (input_count net) net.jobs old_cells
  old_obey = laid_obeys d step reads (input_count net) ins net.jobs n (forward net l)

  old_alike : Alike net l d step reads old_cells old_obey
  unfolding Alike
  old_alike a b v w e = ap (λ (j : Job). step j old_cells) (equal_jobs net l a b v w e)

  new_forward : (p : ℕ) → p < length (folded_jobs net) → AllByRecursion (λ (t : Term). t.cell < input_count net + p) (job_at (folded_jobs net) p).terms
  new_forward p b = let q = job_of net l p b in
      subst (λ (j : Job). AllByRecursion (λ (t : Term). t.cell < input_count net + p) j.terms) (sym q.1.is)
      (all_moved (λ (c : ℕ). c < input_count net + p) (anew net) (job_at net.jobs q.0).terms (anew_below net l q.0 p q.1))

  new_obey : Obeys d step (input_count net) (folded_jobs net) new_cells
  new_obey = laid_obeys d step reads (input_count net) ins (folded_jobs net) n new_forward

  firsts : (c : ℕ) → c < input_count net → get_or new_cells c d ≡ get_or old_cells c d
  firsts c b = laid_before step ins (folded_jobs net) d c (omega (arith, b, n)) ∙ sym (laid_before step ins net.jobs d c (omega (arith, b, n)))

  pub kept_cell : (c : ℕ) → c < input_count net + length net.jobs → is_kept net c ≡ true → get_or new_cells (numbered (is_kept net) c) d ≡ get_or old_cells c d
  kept_cell c b h = kept_below net l d step reads old_cells old_obey (rep_same net l d step reads old_cells old_obey old_alike) new_cells new_obey firsts (suc c) c (omega arith) b h

  pub anew_cell : (c : ℕ) → c < input_count net + length net.jobs → is_kept net (rep net c) ≡ true → get_or new_cells (anew net c) d ≡ get_or old_cells c d
  anew_cell c b h = anew_same net l d step reads old_cells old_obey (rep_same net l d step reads old_cells old_obey old_alike) new_cells new_obey firsts c b h

-- ---- outputs whose cells are replaced

-- an output's cell: it is a cell, and what stands for it is kept
pub record Given (net : Net) (c : ℕ) : Type 0 where
  pub within : c < input_count net + length net.jobs
  pub kept : is_kept net (rep net c) ≡ true

pub all_given : (net : Net) → Legal net → AllByRecursion (Given net) (cells_given net.outputs)
all_given net l = both_of (cells_given net.outputs) (given_within net l) (kept_given net l)
  where
    both_of : (cs : List ℕ) → AllByRecursion (λ (c : ℕ). c < input_count net + length net.jobs) cs → AllByRecursion (λ (c : ℕ). is_kept net (rep net c) ≡ true) cs → AllByRecursion (Given net) cs
    both_of [] g h = tt
    both_of (c ∷ cs) g h = (record { within = g.0; kept = h.0 }, both_of cs g.1 h.1)

all_front : (P : ℕ → Type 0) (xs ys : List ℕ) → AllByRecursion P (xs ++ ys) → AllByRecursion P xs
all_front P [] ys h = tt
all_front P (x ∷ xs) ys h = (h.0, all_front P xs ys h.1)

all_back : (P : ℕ → Type 0) (xs ys : List ℕ) → AllByRecursion P (xs ++ ys) → AllByRecursion P ys
all_back P [] ys h = h
all_back P (x ∷ xs) ys h = all_back P xs ys h.1

map_append : {B : Type 0} (f : ℕ → B) (xs ys : List ℕ) → map f (xs ++ ys) ≡ map f xs ++ map f ys
map_append f [] ys = refl
map_append f (x ∷ xs) ys = ap (λ zs. f x ∷ zs) (map_append f xs ys)

pub given_moved : (f : ℕ → ℕ) (os : List NetOutput) → cells_given (map (moved_output f) os) ≡ map f (cells_given os)
given_moved f [] = refl
given_moved f (o ∷ os) = ap (λ (cs : List ℕ). map f o.cells ++ cs) (given_moved f os) ∙ sym (map_append f o.cells (cells_given os))

map_same : {B : Type 0} (f : ℕ → ℕ) (g h : ℕ → B) (cs : List ℕ) → AllByRecursion (λ (c : ℕ). g (f c) ≡ h c) cs → map g (map f cs) ≡ map h cs
map_same f g h [] same = refl
map_same f g h (c ∷ cs) same = ap (λ x. x ∷ map g (map f cs)) same.0 ∙ ap (λ xs. h c ∷ xs) (map_same f g h cs same.1)

names_kept : (f : ℕ → ℕ) (name : List ℕ) (os : List NetOutput) → names_output name (map (moved_output f) os) ≡ names_output name os
names_kept f name [] = refl
names_kept f name (o ∷ os) = ap (λ (b : Bool). bytes_eq o.name name || b) (names_kept f name os)

kept_fields : {B : Type 0} (field : NetOutput → B) (f : ℕ → ℕ) → ((o : NetOutput) → field (moved_output f o) ≡ field o) → (os : List NetOutput) → map field (map (moved_output f) os) ≡ map field os
kept_fields field f same [] = refl
kept_fields field f same (o ∷ os) = ap (λ x. x ∷ map field (map (moved_output f) os)) (same o) ∙ ap (λ xs. field o ∷ xs) (kept_fields field f same os)

module _ (net : Net) (l : Legal net) where
  pub new_count : input_count net + length (folded_jobs net) ≡ numbered (is_kept net) (input_count net + length net.jobs)
  unfolding folded_jobs
  new_count =
      let e = length-map (kept_of (is_kept net) (input_count net) net.jobs) (moved (anew net)) in
      let k = length-kept (is_kept net) (input_count net) net.jobs in
      let n = number_inputs net l (input_count net) (omega arith) in omega arith

  pub fewer : length (folded_jobs net) ≤ length net.jobs
  fewer = let e = new_count in let m = numbered_most (is_kept net) (input_count net + length net.jobs) in omega arith

  pub anew_within : (c : ℕ) → Given net c → anew net c < input_count net + length (folded_jobs net)
  unfolding anew
  anew_within c g = let w = g.within in let r = rep_le net l c w in let e = new_count in
      let h = numbered_lt (is_kept net) (rep net c) (input_count net + length net.jobs) (omega arith) g.kept in omega arith

  -- ---- outputs stay lawful
  abbrev old_count : ℕ
  old_count = input_count net + length net.jobs

  abbrev next_count : ℕ
  next_count = input_count net + length (folded_jobs net)

  abbrev old_degree_of : ℕ → ℕ
  old_degree_of c = get_or (degrees_after net.space net.inputs net.jobs) c 0

  abbrev new_degree_of : ℕ → ℕ
  new_degree_of c = get_or (degrees_after net.space net.inputs (folded_jobs net)) c 0

  cells_lawful : (most : ℕ) (cs : List ℕ) → AllByRecursion (Given net) cs → are_cells old_count old_degree_of most cs ≡ true → are_cells next_count new_degree_of most (map (anew net) cs) ≡ true
  cells_lawful most [] g h = refl
  cells_lawful most (c ∷ cs) g h =
      let a = and_parts (nat_lt c old_count && nat_le (old_degree_of c) most) (are_cells old_count old_degree_of most cs) h in
      let b = and_parts (nat_lt c old_count) (nat_le (old_degree_of c) most) a.0 in
      let low : nat_le (new_degree_of (anew net c)) most ≡ true = ap (λ (x : ℕ). nat_le x most) (degree_anew net l c g.0.within g.0.kept) ∙ b.1 in
      and_both (nat_lt (anew net c) next_count && nat_le (new_degree_of (anew net c)) most) (are_cells next_count new_degree_of most (map (anew net) cs))
      (and_both (nat_lt (anew net c) next_count) (nat_le (new_degree_of (anew net c)) most) (nat_lt_is (anew net c) next_count (anew_within c g.0)) low)
      (cells_lawful most cs g.1 a.1)

  output_lawful : (before : List NetOutput) (o : NetOutput) → AllByRecursion (Given net) o.cells → IsTrue (is_output net.space old_count old_degree_of before o)
      → IsTrue (is_output net.space next_count new_degree_of (map (moved_output (anew net)) before) (moved_output (anew net) o))
  output_lawful before o g h =
      let most : ℕ = greatest o.kind net.space in
      let a = and_parts (is_form net.space o.kind o.bits) ((length o.cells == block_count o.kind net.space o.bits) && (not (names_output o.name before) && are_cells old_count old_degree_of most o.cells)) h in
      let b = and_parts (length o.cells == block_count o.kind net.space o.bits) (not (names_output o.name before) && are_cells old_count old_degree_of most o.cells) a.1 in
      let e = and_parts (not (names_output o.name before)) (are_cells old_count old_degree_of most o.cells) b.1 in
      let cs : List ℕ = map (anew net) o.cells in
      let bs : List NetOutput = map (moved_output (anew net)) before in
      let count : (length cs == block_count o.kind net.space o.bits) ≡ true = ap (λ (m : ℕ). m == block_count o.kind net.space o.bits) (length-map o.cells (anew net)) ∙ b.0 in
      let name : not (names_output o.name bs) ≡ true = ap (λ (x : Bool). not x) (names_kept (anew net) o.name before) ∙ e.0 in
      and_both (is_form net.space o.kind o.bits) ((length cs == block_count o.kind net.space o.bits) && (not (names_output o.name bs) && are_cells next_count new_degree_of most cs)) a.0
      (and_both (length cs == block_count o.kind net.space o.bits) (not (names_output o.name bs) && are_cells next_count new_degree_of most cs) count
      (and_both (not (names_output o.name bs)) (are_cells next_count new_degree_of most cs) name (cells_lawful most o.cells g e.1)))

  outputs_lawful : (before os : List NetOutput) → AllByRecursion (Given net) (cells_given os) → InTurn (λ before o. IsTrue (is_output net.space old_count old_degree_of before o)) before os
      → InTurn (λ before o. IsTrue (is_output net.space next_count new_degree_of before o)) (map (moved_output (anew net)) before) (map (moved_output (anew net)) os)
  outputs_lawful before [] g h = tt
  outputs_lawful before (o ∷ os) g h = (
    output_lawful before o (all_front (Given net) o.cells (cells_given os) g) h.0,
    subst (λ (bs : List NetOutput). InTurn (λ before o. IsTrue (is_output net.space next_count new_degree_of before o)) bs (map (moved_output (anew net)) os))
        (append_one before o) (outputs_lawful (before ++ o ∷ []) os (all_back (Given net) o.cells (cells_given os) g) h.1),
  )
    where
      append_one : (bs : List NetOutput) (o : NetOutput) → map (moved_output (anew net)) (bs ++ o ∷ []) ≡ map (moved_output (anew net)) bs ++ moved_output (anew net) o ∷ []
      append_one [] o = refl
      append_one (b ∷ bs) o = ap (λ (zs : List NetOutput). moved_output (anew net) b ∷ zs) (append_one bs o)

  new_few : (p : ℕ) → p < length (folded_jobs net) → length (job_at (folded_jobs net) p).terms ≤ 16
  new_few p b =
      let q = job_of net l p b in
      let j : Job = job_at net.jobs q.0 in
      let few : length j.terms ≤ 16 = job_few net l q.0 j q.1.job (get_or_default net.jobs q.0 no_job j q.1.job) in
      let e : length (job_at (folded_jobs net) p).terms ≡ length j.terms = ap (λ (j : Job). length j.terms) q.1.is ∙ length-map j.terms (moved_term (anew net)) in
      omega arith

  new_legal : Legal (folded net)
  unfolding folded cell_count degree
  new_legal = record {
    limits = record {
      space = l.limits.space;
      few_inputs = l.limits.few_inputs;
      inputs = l.limits.inputs;
      few_jobs = let f = fewer in let m = l.limits.few_jobs in omega arith;
      few_terms = turn_from (λ before (j : Job). length j.terms ≤ 16) no_job [] (folded_jobs net) new_few;
      few_outputs = let m = l.limits.few_outputs in let e = length-map net.outputs (moved_output (anew net)) in omega arith;
    };
    jobs = turn_from (IsJob net.space net.inputs) no_job [] (folded_jobs net) (new_lawful net l);
    outputs = outputs_lawful [] net.outputs (all_given net l) l.outputs;
  }

  -- ---- equal jobs and unused jobs are gone

  -- replaced cells that are equal stand for equal ones
  terms_once : (ts us : List Term) → AllByRecursion (λ (t : Term). is_kept net (rep net t.cell) ≡ true) ts → AllByRecursion (λ (t : Term). is_kept net (rep net t.cell) ≡ true) us
      → map (moved_term (anew net)) ts ≡ map (moved_term (anew net)) us → map (moved_term (rep net)) ts ≡ map (moved_term (rep net)) us
  unfolding anew
  terms_once [] [] g h e = refl
  terms_once [] (u ∷ us) g h e = absurd (let z : 0 ≡ suc (length (map (moved_term (anew net)) us)) = ap (λ (xs : List Term). length xs) e in omega arith)
  terms_once (t ∷ ts) [] g h e = absurd (let z : suc (length (map (moved_term (anew net)) ts)) ≡ 0 = ap (λ (xs : List Term). length xs) e in omega arith)
  terms_once (t ∷ ts) (u ∷ us) g h e =
      let none : Term = record { cell = 0; weight = t.weight } in
      let first : moved_term (anew net) t ≡ moved_term (anew net) u = ap (λ (xs : List Term). get_or xs 0 none) e in
      let rest : map (moved_term (anew net)) ts ≡ map (moved_term (anew net)) us = ap (λ (xs : List Term). drop 1 xs) e in
      let cell : rep net t.cell ≡ rep net u.cell = numbered_once (is_kept net) (rep net t.cell) (rep net u.cell) g.0 h.0 (ap (λ (t : Term). t.cell) first) in
      let weight : t.weight ≡ u.weight = ap (λ (t : Term). t.weight) first in
      ap (λ (c : ℕ). (let z : Term = record { cell = c; weight = t.weight } in z) ∷ map (moved_term (rep net)) ts) cell
      ∙ ap (λ (w : ℤ). (let z : Term = record { cell = rep net u.cell; weight = w } in z) ∷ map (moved_term (rep net)) ts) weight
      ∙ ap (λ (xs : List Term). moved_term (rep net) u ∷ xs) (terms_once ts us g.1 h.1 rest)

  apart_at : (i k p q : ℕ) → Placed net i p → Placed net k q → p < q → AreEqual (job_at (folded_jobs net) p) (job_at (folded_jobs net) q) → ⊥
  apart_at i k p q x y b e =
      let j : Job = job_at net.jobs i in
      let o : Job = job_at net.jobs k in
      let pi = ap (λ (z : Job). z.terms) x.is in
      let pk = ap (λ (z : Job). z.terms) y.is in
      let ts : map (moved_term (anew net)) j.terms ≡ map (moved_term (anew net)) o.terms = sym (ap (λ (z : Job). z.terms) x.is) ∙ e.terms ∙ ap (λ (z : Job). z.terms) y.is in
      let same : AreEqual (job_at (merged net) i) (job_at (merged net) k) = record {
        terms = ap (λ (z : Job). z.terms) (merged_is net l i x.job) ∙ terms_once j.terms o.terms (kept_named net l i x.job x.kept) (kept_named net l k y.job y.kept) ts ∙ sym (ap (λ (z : Job). z.terms) (merged_is net l k y.job));
        constant = ap (λ (z : Job). z.constant) (merged_is net l i x.job) ∙ sym (ap (λ (z : Job). z.constant) x.is) ∙ e.constant ∙ ap (λ (z : Job). z.constant) y.is ∙ sym (ap (λ (z : Job). z.constant) (merged_is net l k y.job));
        table = ap (λ (z : Job). z.table) (merged_is net l i x.job) ∙ sym (ap (λ (z : Job). z.table) x.is) ∙ e.table ∙ ap (λ (z : Job). z.table) y.is ∙ sym (ap (λ (z : Job). z.table) (merged_is net l k y.job));
      } in
      let v = x.job in let w = y.job in
      let r : input_count net + i ≡ input_count net + k =
      sym (kept_rep net l (input_count net + i) (omega arith) x.kept) ∙ rep_equal net l i k same ∙ kept_rep net l (input_count net + k) (omega arith) y.kept in
      let n : input_count net + p ≡ input_count net + q = sym x.number ∙ ap (numbered (is_kept net)) r ∙ y.number in
      absurd (omega arith)

  new_apart : (p q : ℕ) → p < q → q < length (folded_jobs net) → AreEqual (job_at (folded_jobs net) p) (job_at (folded_jobs net) q) → ⊥
  new_apart p q b w e = let x = job_of net l p (omega arith) in let y = job_of net l q w in apart_at x.0 y.0 p q x.1 y.1 b e

  map_twice : (cs : List ℕ) → map (numbered (is_kept net)) (map (rep net) cs) ≡ map (anew net) cs
  unfolding anew
  map_twice [] = refl
  map_twice (c ∷ cs) = ap (λ (xs : List ℕ). anew net c ∷ xs) (map_twice cs)

  terms_twice : (ts : List Term) → map (moved_term (numbered (is_kept net))) (map (moved_term (rep net)) ts) ≡ map (moved_term (anew net)) ts
  unfolding anew
  terms_twice [] = refl
  terms_twice (t ∷ ts) = ap (λ (xs : List Term). moved_term (anew net) t ∷ xs) (terms_twice ts)

  live_is : (k : ℕ) → is_needed (map (rep net) (cells_given net.outputs)) (input_count net) (merged net) (input_count net + k) ≡ true → is_live net (input_count net + k) ≡ true
  unfolding is_live
  live_is k h = h

  used_at : (i p : ℕ) → Placed net i p → IsTrue (names_any (cells_given (map (moved_output (anew net)) net.outputs)) (input_count net + p))
      ⊎ ((q : ℕ) × (p < q) × (q < length (folded_jobs net)) × IsTrue (names (job_at (folded_jobs net) q) (input_count net + p)))
  used_at i p x =
      let number = numbered (is_kept net) in
      elim (live_why net l (input_count net + i) (live_kept net l i x.kept)) [
        | inl given ↦ inl (subst (λ (cs : List ℕ). names_any cs (input_count net + p) ≡ true) (sym (given_moved (anew net) net.outputs))
            (subst (λ (c : ℕ). names_any (map (anew net) (cells_given net.outputs)) c ≡ true) x.number
            (subst (λ (cs : List ℕ). names_any cs (number (input_count net + i)) ≡ true) (map_twice (cells_given net.outputs))
            (any_moved number (map (rep net) (cells_given net.outputs)) (input_count net + i) given))))
        | inr why ↦
            let k : ℕ = why.job in
            let w : k < length net.jobs = (let a = why.within in let e = merged_count net l in omega arith) in
            let kept : is_kept net (input_count net + k) ≡ true = kept_live net l (input_count net + k) (live_is k why.needed) in
            let y = place_of net l k w kept in
            let later : input_count net + i < input_count net + k =
            named_by (λ (c : ℕ). c < input_count net + k) (job_at (merged net) k).terms (input_count net + i) why.names (forward_at (input_count net) (merged net) (merged_forward net l) k why.within) in
            let below = numbered_lt (is_kept net) (input_count net + i) (input_count net + k) later x.kept in
            let np = x.number in let nq = y.1.number in
            let ts : (job_at (merged net) k).terms ≡ map (moved_term (rep net)) (job_at net.jobs k).terms = ap (λ (j : Job). j.terms) (merged_is net l k w) in
            let named : list_any (λ (t : Term). t.cell == (input_count net + i)) (map (moved_term (rep net)) (job_at net.jobs k).terms) ≡ true =
            subst (λ (ts : List Term). list_any (λ (t : Term). t.cell == (input_count net + i)) ts ≡ true) ts why.names in
            inr (
              y.0,
              omega arith,
              y.1.place,
              subst (λ (j : Job). names j (input_count net + p) ≡ true) (sym y.1.is)
                  (subst (λ (c : ℕ). list_any (λ (t : Term). t.cell == c) (map (moved_term (anew net)) (job_at net.jobs k).terms) ≡ true) x.number
                  (subst (λ (ts : List Term). list_any (λ (t : Term). t.cell == number (input_count net + i)) ts ≡ true) (terms_twice (job_at net.jobs k).terms)
                  (named_moved number (map (moved_term (rep net)) (job_at net.jobs k).terms) (input_count net + i) named))),
            )
      ]

  new_folded : IsFolded (folded net)
  unfolding folded
  new_folded = record {
    apart = new_apart;
    used = λ p b. let q = job_of net l p b in used_at q.0 p q.1;
  }

  -- ---- depth
  greatest_most : (xs : List ℕ) (most : ℕ) → ((c : ℕ) → c < length xs → get_or xs c 0 ≤ most) → greatest_of xs ≤ most
  unfolding greatest_of
  greatest_most [] most h = omega arith
  greatest_most (x ∷ xs) most h =
      let a : x ≤ most = h 0 (omega arith) in
      let b = greatest_most xs most (λ c w. h (suc c) (omega arith)) in omega arith

  abbrev no_depths : List ℕ
  no_depths = given net.space (λ (x : NetInput). 0) net.inputs

  depth_at : (c : ℕ) → c < input_count net + length (folded_jobs net) → get_or (laid one_deeper no_depths (folded_jobs net)) c 0 ≤ greatest_of (laid one_deeper no_depths net.jobs)
  depth_at c b =
      let n = length-given net.space (λ (x : NetInput). 0) net.inputs in
      let old : List ℕ = laid one_deeper no_depths net.jobs in
      let size : length old ≡ input_count net + length net.jobs = (let e = length-laid one_deeper no_depths net.jobs in omega arith) in
      elim (cases_lt c (input_count net)) [
        | inl lt ↦
            let e : get_or (laid one_deeper no_depths (folded_jobs net)) c 0 ≡ get_or old c 0 =
            laid_before one_deeper no_depths (folded_jobs net) 0 c (omega arith) ∙ sym (laid_before one_deeper no_depths net.jobs 0 c (omega arith)) in
            let g = greatest_at old c (omega arith) in omega arith
        | inr le ↦
            let q = job_of net l (c - input_count net) (omega arith) in
            let x = q.1 in
            let v = x.job in
            let at : c ≡ numbered (is_kept net) (input_count net + q.0) = (let m = x.number in omega arith) in
            let e : get_or (laid one_deeper no_depths (folded_jobs net)) c 0 ≡ get_or old (input_count net + q.0) 0 =
            ap (λ (c : ℕ). get_or (laid one_deeper no_depths (folded_jobs net)) c 0) at ∙ kept_cell net l 0 one_deeper depth_reads no_depths n (input_count net + q.0) (omega arith) x.kept in
            let g = greatest_at old (input_count net + q.0) (omega arith) in omega arith
      ]

  new_depth : net_depth (folded net) ≤ net_depth net
  unfolding net_depth folded depths_after
  new_depth =
      let n = length-given net.space (λ (x : NetInput). 0) net.inputs in
      let e = length-laid one_deeper no_depths (folded_jobs net) in
      greatest_most (laid one_deeper no_depths (folded_jobs net)) (greatest_of (laid one_deeper no_depths net.jobs)) (λ c b. depth_at c (omega arith))

  -- ---- what the outputs hold
  outs_same : (ws vs : List ℕ) (os : List NetOutput) → AllByRecursion (λ (c : ℕ). get_or ws (anew net c) 0 ≡ get_or vs c 0) (cells_given os)
      → map (λ (o : NetOutput). number_of net.space (values_of ws o)) (map (moved_output (anew net)) os) ≡ map (λ (o : NetOutput). number_of net.space (values_of vs o)) os
  outs_same ws vs [] h = refl
  outs_same ws vs (o ∷ os) h =
      let first = map_same (anew net) (λ (c : ℕ). get_or ws c 0) (λ (c : ℕ). get_or vs c 0) o.cells (all_front (λ (c : ℕ). get_or ws (anew net c) 0 ≡ get_or vs c 0) o.cells (cells_given os) h) in
      ap (λ (xs : List ℕ). number_of net.space xs ∷ map (λ (o : NetOutput). number_of net.space (values_of ws o)) (map (moved_output (anew net)) os)) first
      ∙ ap (λ (ns : List ℕ). number_of net.space (values_of vs o) ∷ ns) (outs_same ws vs os (all_back (λ (c : ℕ). get_or ws (anew net c) 0 ≡ get_or vs c 0) o.cells (cells_given os) h))

  all_cells : (P Q : ℕ → Type 0) (cs : List ℕ) → ((c : ℕ) → P c → Q c) → AllByRecursion P cs → AllByRecursion Q cs
  all_cells P Q [] f h = tt
  all_cells P Q (c ∷ cs) f h = (f c h.0, all_cells P Q cs f h.1)

  new_outs : (inputs : List ℕ) → Within net.space net.inputs inputs → outs (folded net) (values_after inputs (folded net).jobs) ≡ outs net (values_after inputs net.jobs)
  unfolding folded values_after
  new_outs inputs w = outs_same (laid job_value inputs (folded_jobs net)) (laid job_value inputs net.jobs) net.outputs
      (all_cells (Given net) (λ (c : ℕ). get_or (laid job_value inputs (folded_jobs net)) (anew net c) 0 ≡ get_or (laid job_value inputs net.jobs) c 0) (cells_given net.outputs)
      (λ c g. anew_cell net l 0 job_value value_reads inputs w.count c g.within g.kept) (all_given net l))

  words_same : (ws vs : List (List ℕ)) (os : List NetOutput) → AllByRecursion (λ (c : ℕ). get_or ws (anew net c) [] ≡ get_or vs c []) (cells_given os)
      → words_given (map (moved_output (anew net)) os) ws ≡ words_given os vs
  words_same ws vs [] h = refl
  words_same ws vs (o ∷ os) h =
      let first = map_same (anew net) (λ (c : ℕ). get_or ws c []) (λ (c : ℕ). get_or vs c []) o.cells (all_front (λ (c : ℕ). get_or ws (anew net c) [] ≡ get_or vs c []) o.cells (cells_given os) h) in
      ap (λ (xs : List (List ℕ)). xs ∷ words_given (map (moved_output (anew net)) os) ws) first
      ∙ ap (λ (ns : List (List (List ℕ))). map (λ (c : ℕ). get_or vs c []) o.cells ∷ ns) (words_same ws vs os (all_back (λ (c : ℕ). get_or ws (anew net c) [] ≡ get_or vs c []) o.cells (cells_given os) h))

  new_words : (words_of : List ℕ → Job → List ℕ → List ℕ) (basis : List ℕ) (inputs : List (List ℕ)) → ReadsWeights words_of → length inputs ≡ input_count net
      → words_given (folded net).outputs (cells_of words_of basis (folded net) inputs) ≡ words_given net.outputs (cells_of words_of basis net inputs)
  unfolding folded cells_of
  new_words words_of basis inputs r n = words_same (laid (words_step words_of basis) inputs (folded_jobs net)) (laid (words_step words_of basis) inputs net.jobs) net.outputs
      (all_cells (Given net) (λ (c : ℕ). get_or (laid (words_step words_of basis) inputs (folded_jobs net)) (anew net c) [] ≡ get_or (laid (words_step words_of basis) inputs net.jobs) c []) (cells_given net.outputs)
      (λ c g. anew_cell net l [] (words_step words_of basis) (words_reads words_of basis r) inputs n c g.within g.kept) (all_given net l))

  tags_same : (f g : ℕ → ℕ) → ((c : ℕ) → Given net c → f (anew net c) ≡ g c) → map f (cells_given (map (moved_output (anew net)) net.outputs)) ≡ map g (cells_given net.outputs)
  tags_same f g h = ap (λ (cs : List ℕ). map f cs) (given_moved (anew net) net.outputs)
      ∙ map_same (anew net) f g (cells_given net.outputs) (all_cells (Given net) (λ (c : ℕ). f (anew net c) ≡ g c) (cells_given net.outputs) h (all_given net l))

  pub folds : Folds net (folded net)
  unfolding folded degree noise
  folds = record {
    legal = new_legal;
    folded = new_folded;
    space = refl;
    inputs = refl;
    output_names = kept_fields (λ (o : NetOutput). o.name) (anew net) (λ o. refl) net.outputs;
    output_kinds = kept_fields (λ (o : NetOutput). o.kind) (anew net) (λ o. refl) net.outputs;
    output_bits = kept_fields (λ (o : NetOutput). o.bits) (anew net) (λ o. refl) net.outputs;
    fewer = fewer;
    shallower = new_depth;
    outs = new_outs;
    degrees = tags_same (λ (c : ℕ). get_or (degrees_after net.space net.inputs (folded_jobs net)) c 0) (λ (c : ℕ). get_or (degrees_after net.space net.inputs net.jobs) c 0)
        (λ c g. degree_anew net l c g.within g.kept);
    noises = tags_same (λ (c : ℕ). get_or (noises_after net.space net.inputs (folded_jobs net)) c 0) (λ (c : ℕ). get_or (noises_after net.space net.inputs net.jobs) c 0)
        (λ c g. noise_anew net l c g.within g.kept);
    words = new_words;
  }
