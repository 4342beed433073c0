-- No cell of a legal net passes its degree.
use Rattle.std.proofs.Common.{◌≡◌, ℕ, ℤ, pos, negsuc, zero, suc, ◌+◌, ◌-◌, ◌<◌, ◌≤◌, inl, inr, ◌*ℤ◌, ◌≤ℤ◌, ◌<ℤ◌, ◌⊎◌, eq-or-lt_of_le, List, [], ◌∷◌, ◌++◌, length, get_or, refl, sym, ap, arith, subst, length-append, append_assoc, append-nil, slice_range, drop}
use Rattle.std.specs.List.{AllByRecursion}
use Rattle.std.proofs.Math.Nat.{mul-le-mul_left}
use Rattle.std.proofs.lemmas.Int.{ints}
use Rattle.std.proofs.lemmas.Bool.{cases_lt}
use Rattle.std.proofs.lemmas.List.{get_or_append_left}
use Rattle.std.proofs.lemmas.List.Edits.{length-between, get_or-between}
use Rattle.rx_laws.specs.Decode.{plaintexts}
use Rattle.rx_net.specs.declared.term.Term.{Term}
use Rattle.rx_net.specs.declared.net.Job.{Job}
use Rattle.rx_net.specs.declared.net.NetInput.{NetInput}
use Rattle.rx_net.specs.declared.net.Net.{Net}
use Rattle.rx_net.specs.Tags.{low_of, high_of, value_of, negative_part, positive_part, greatest_of, greatest_between, natural}
use Rattle.rx_net.specs.Cells.{input_cells, cell_count, given, laid, job_value, declared_degree, values_after, degrees_after, value, degree, Within}
use Rattle.rx_net.specs.Legal.{InTurn, IsJob, JobFits, Legal, IsBounded, reached}
use Rattle.rx_net.proofs.Each.{all_map, all_take, all_drop}
use Rattle.rx_net.proofs.Laid.{length-laid, laid-last, get_or_end}
use Rattle.rx_net.proofs.Inputs.{length-given}

pub part_low : (w : ℤ) (v d : ℕ) → v ≤ d → (negative_part w *ℤ pos d) ≤ℤ (w *ℤ pos v)
part_low (pos n) v d h = omega (arith, ints)
part_low (negsuc n) v d h = omega (arith, ints, mul-le-mul_left (suc n) h)

pub part_high : (w : ℤ) (v d : ℕ) → v ≤ d → (w *ℤ pos v) ≤ℤ (positive_part w *ℤ pos d)
part_high (pos n) v d h = omega (arith, ints, mul-le-mul_left n h)
part_high (negsuc n) v d h = omega (arith, ints)

value_low : (k : ℤ) (ts : List Term) (v d : ℕ → ℕ) → AllByRecursion (λ t. v t.cell ≤ d t.cell) ts → low_of d k ts ≤ℤ value_of v k ts
value_low k [] v d h = omega (arith, ints)
value_low k (t ∷ ts) v d h = omega (arith, ints, part_low t.weight (v t.cell) (d t.cell) h.0, value_low k ts v d h.1)

value_high : (k : ℤ) (ts : List Term) (v d : ℕ → ℕ) → AllByRecursion (λ t. v t.cell ≤ d t.cell) ts → value_of v k ts ≤ℤ high_of d k ts
value_high k [] v d h = omega (arith, ints)
value_high k (t ∷ ts) v d h = omega (arith, ints, part_high t.weight (v t.cell) (d t.cell) h.0, value_high k ts v d h.1)

natural_le : (a b : ℤ) → a ≤ℤ b → natural a ≤ natural b
natural_le (pos a) (pos b) h = omega (arith, ints)
natural_le (pos a) (negsuc b) h = omega (arith, ints)
natural_le (negsuc a) b h = omega arith

pub natural_lt : (a : ℤ) (n : ℕ) → pos 0 ≤ℤ a → a <ℤ pos n → natural a < n
natural_lt (pos a) n h k = omega (arith, ints)
natural_lt (negsuc a) n h k = absurd (omega (arith, ints))

pub natural_is : (a : ℤ) → pos 0 ≤ℤ a → pos (natural a) ≡ a
natural_is (pos a) h = refl
natural_is (negsuc a) h = absurd (omega (arith, ints))

pub greatest_at : (xs : List ℕ) (i : ℕ) → i < length xs → get_or xs i 0 ≤ greatest_of xs
unfolding greatest_of
greatest_at [] i p = absurd (omega arith)
greatest_at (x ∷ xs) zero p = omega arith
greatest_at (x ∷ xs) (suc i) p = omega (arith, greatest_at xs i (omega arith))

between_at : (table : List ℕ) (lo hi i : ℕ) → lo ≤ i → i ≤ hi → hi < length table → get_or table i 0 ≤ greatest_between table lo hi
unfolding greatest_between
between_at table lo hi i a b r =
    let n : length (slice_range table lo (suc hi)) ≡ suc hi - lo = length-between table lo (suc hi) (omega arith) in
    let e : lo + (i - lo) ≡ i = omega arith in
    let g : get_or (slice_range table lo (suc hi)) (i - lo) 0 ≡ get_or table (lo + (i - lo)) 0 = get_or-between table lo (suc hi) (i - lo) 0 (omega arith) in
    let g' : get_or table (lo + (i - lo)) 0 ≡ get_or table i 0 = ap (λ j. get_or table j 0) e in
    omega (arith, greatest_at (slice_range table lo (suc hi)) (i - lo) (omega arith))

greatest_below : (most : ℕ) (entries : List ℕ) → 0 < most → AllByRecursion (λ entry. entry < most) entries → greatest_of entries < most
unfolding greatest_of
greatest_below most [] some below = some
greatest_below most (e ∷ es) some below = omega (arith, below.0, greatest_below most es some below.1)

-- the greatest entry of a part of a table is below what all entries are below
pub between_below : (most : ℕ) (table : List ℕ) (low high : ℕ) → 0 < most → AllByRecursion (λ entry. entry < most) table → greatest_between table low high < most
unfolding greatest_between
between_below most table low high some below =
    greatest_below most (slice_range table low (suc high)) some
    (all_take (λ entry. entry < most) (suc high - low) (drop low table) (all_drop (λ entry. entry < most) low table below))

-- a lawful job over values within the degrees: the index is one of the table, and the entry is within the reached degree
pub record LooksUp (v d : ℕ → ℕ) (ts : List Term) (k : ℤ) (table : List ℕ) : Type 0 where
  pub low : pos 0 ≤ℤ value_of v k ts
  pub high : natural (value_of v k ts) < length table
  pub entry : get_or table (natural (value_of v k ts)) 0 ≤ reached d ts k table

pub looks_up : (space count : ℕ) (v d n : ℕ → ℕ) (ts : List Term) (k : ℤ) (table : List ℕ) → ((c : ℕ) → c < count → v c ≤ d c)
    → JobFits space count d n ts k table → LooksUp v d ts k table
looks_up space count v d n ts k table h f =
    let b : AllByRecursion (λ t. v t.cell ≤ d t.cell) ts = all_map (λ (t : Term). t.cell < count) (λ (t : Term). v t.cell ≤ d t.cell) ts (λ t p. h t.cell p) f.forward in
    let wl : low_of d k ts ≤ℤ value_of v k ts = value_low k ts v d b in
    let wh : value_of v k ts ≤ℤ high_of d k ts = value_high k ts v d b in
    let l : pos 0 ≤ℤ value_of v k ts = omega (arith, ints, f.low) in
    let g : high_of d k ts <ℤ pos (plaintexts space) = f.high in
    let z : pos 0 ≤ℤ high_of d k ts = omega (arith, ints) in
    let top : natural (high_of d k ts) < plaintexts space = natural_lt (high_of d k ts) (plaintexts space) z g in
    let r : natural (high_of d k ts) < length table = subst (λ (n : ℕ). natural (high_of d k ts) < n) (sym f.table_count) top in
    let lo : natural (low_of d k ts) ≤ natural (value_of v k ts) = natural_le (low_of d k ts) (value_of v k ts) wl in
    let hi : natural (value_of v k ts) ≤ natural (high_of d k ts) = natural_le (value_of v k ts) (high_of d k ts) wh in
    record {
      low = l;
      high = omega arith;
      entry = between_at table (natural (low_of d k ts)) (natural (high_of d k ts)) (natural (value_of v k ts)) lo hi r;
    }

-- cells after these jobs are within their degrees
abbrev pub AreWithin : ℕ → List NetInput → List ℕ → List Job → Type 0
AreWithin space inputs xs before = (c : ℕ) → c < input_cells space inputs + length before → get_or (values_after xs before) c 0 ≤ get_or (degrees_after space inputs before) c 0

within_more : (space : ℕ) (inputs : List NetInput) (xs : List ℕ) (before : List Job) (j : Job) → length xs ≡ input_cells space inputs
    → AreWithin space inputs xs before → IsJob space inputs before j → AreWithin space inputs xs (before ++ j ∷ [])
unfolding values_after degrees_after job_value
within_more space inputs xs before j n h l c p =
    let ds : List ℕ = given space (λ i. i.degree) inputs in
    let vs : List ℕ = laid job_value xs before in
    let gs : List ℕ = laid declared_degree ds before in
    let vn : length vs ≡ input_cells space inputs + length before = omega (arith, length-laid job_value xs before) in
    let gn : length gs ≡ input_cells space inputs + length before = omega (arith, length-laid declared_degree ds before, length-given space (λ i. i.degree) inputs) in
    let ve : get_or (laid job_value xs (before ++ j ∷ [])) c 0 ≡ get_or (vs ++ job_value j vs ∷ []) c 0 = ap (λ l. get_or l c 0) (laid-last job_value xs before j) in
    let ge : get_or (laid declared_degree ds (before ++ j ∷ [])) c 0 ≡ get_or (gs ++ j.degree ∷ []) c 0 = ap (λ l. get_or l c 0) (laid-last declared_degree ds before j) in
    elim (cases_lt c (length vs)) [
      | inl q ↦
          let q' : c < length gs = omega arith in
          let a : get_or (vs ++ job_value j vs ∷ []) c 0 ≡ get_or vs c 0 = get_or_append_left vs (job_value j vs ∷ []) 0 c q in
          let b : get_or (gs ++ j.degree ∷ []) c 0 ≡ get_or gs c 0 = get_or_append_left gs (j.degree ∷ []) 0 c q' in
          omega (arith, h c (omega arith))
      | inr q ↦
          let q' : length vs ≤ c = q in
          let m : c ≡ length vs = omega (arith, length-append before (j ∷ [])) in
          let a : get_or (vs ++ job_value j vs ∷ []) c 0 ≡ job_value j vs = get_or_end vs (job_value j vs) 0 c m in
          let b : get_or (gs ++ j.degree ∷ []) c 0 ≡ j.degree = get_or_end gs j.degree 0 c (omega arith) in
          let u = looks_up space (input_cells space inputs + length before) (λ c. get_or vs c 0) (λ c. get_or gs c 0) _ j.terms j.constant j.table h l.fits in
          let e : job_value j vs ≤ reached (λ c. get_or gs c 0) j.terms j.constant j.table = u.entry in
          let d : j.degree ≡ reached (λ c. get_or gs c 0) j.terms j.constant j.table = l.declared in
          omega arith
    ]

pub within_all : (space : ℕ) (inputs : List NetInput) (xs : List ℕ) (before js : List Job) → length xs ≡ input_cells space inputs
    → AreWithin space inputs xs before → InTurn (IsJob space inputs) before js → AreWithin space inputs xs (before ++ js)
within_all space inputs xs before [] n h l = subst (AreWithin space inputs xs) (sym (append-nil before)) h
within_all space inputs xs before (j ∷ js) n h l =
    subst (AreWithin space inputs xs) (append_assoc before (j ∷ []) js)
    (within_all space inputs xs (before ++ j ∷ []) js n (within_more space inputs xs before j n h l.0) l.1)

pub within_first : (space : ℕ) (inputs : List NetInput) (xs : List ℕ) → Within space inputs xs → AreWithin space inputs xs []
unfolding values_after degrees_after laid
within_first space inputs xs w c p = w.each c (omega (arith, w.count))

pub bounded_from_legal : (net : Net) → Legal net → IsBounded net
unfolding value degree cell_count
bounded_from_legal net l xs w c p = within_all net.space net.inputs xs [] net.jobs w.count (within_first net.space net.inputs xs w) l.jobs c p

-- ---- values that are tested cell after cell

-- the first n values are within the degrees of their cells
abbrev pub AreFirstWithin : ℕ → List NetInput → List ℕ → ℕ → Type 0
AreFirstWithin space inputs xs n = (c : ℕ) → c < n → get_or xs c 0 ≤ get_or (degrees_after space inputs []) c 0

within_here : (f g : ℕ → ℕ) (n c : ℕ) → ((k : ℕ) → k < n → f k ≤ g k) → f n ≤ g n → (c ≡ n) ⊎ (c < n) → f c ≤ g c
within_here f g n c before here (inl e) = subst (λ k. f k ≤ g k) (sym e) here
within_here f g n c before here (inr p) = before c p

pub one_more_within : (space : ℕ) (inputs : List NetInput) (xs : List ℕ) (n most : ℕ) → AreFirstWithin space inputs xs n →
    most ≡ get_or (degrees_after space inputs []) n 0 → get_or xs n 0 ≤ most → AreFirstWithin space inputs xs (n + 1)
one_more_within space inputs xs n most before e p c q =
    within_here (λ k. get_or xs k 0) (λ k. get_or (degrees_after space inputs []) k 0) n c before (omega (arith, e, p)) (eq-or-lt_of_le (omega (arith, q)))

pub all_within : (space : ℕ) (inputs : List NetInput) (xs : List ℕ) → length xs ≡ input_cells space inputs →
    AreFirstWithin space inputs xs (length xs) → Within space inputs xs
unfolding degrees_after laid
all_within space inputs xs count are = record { count = count; each = are }

pub not_within : (space : ℕ) (inputs : List NetInput) (xs : List ℕ) (n most : ℕ) → n < length xs →
    most ≡ get_or (degrees_after space inputs []) n 0 → most < get_or xs n 0 → Within space inputs xs → ⊥
unfolding degrees_after laid
not_within space inputs xs n most p e past w = omega (arith, w.each n p, e, past)
