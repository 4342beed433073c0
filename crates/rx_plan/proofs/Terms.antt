-- Jobs of a few terms are lawful, and look up what is said.
use Rattle.std.proofs.Common.{◌≡◌, ◌^◌, ℕ, ℤ, pos, negsuc, suc, ◌+◌, ◌-◌, ◌*◌, ◌<◌, ◌≤◌, ◌<ℤ◌, List, [], ◌∷◌, length, get_or, map, refl, sym, ◌∙◌, ap, arith, subst, slice_range}
use Rattle.std.specs.List.{AllByRecursion}
use Rattle.std.proofs.lemmas.Int.{ints}
use Rattle.std.proofs.lemmas.Nat.{mul-pow, mul-le, pow_pos}
use Rattle.std.proofs.lemmas.List.Edits.{length-between, get_or-between}
use Rattle.rx_laws.specs.Decode.{plaintexts}
use Rattle.rx_net.specs.declared.term.Term.{Term}
use Rattle.rx_net.specs.declared.net.Net.{Net}
use Rattle.rx_net.specs.Tags.{value_of, low_of, high_of, greatest_of, greatest_between, natural}
use Rattle.rx_net.specs.Cells.{cell_count, value, degree, noise, depth}
use Rattle.rx_net.specs.Legal.{JobFits, IsBounded, reached}
use Rattle.rx_net.specs.Growth.{AddsJob}
use Rattle.rx_net.proofs.Fits.{high_within}
use Rattle.rx_plan.specs.Tables.{entries, IsTable}
use Rattle.rx_plan.specs.Values.{AreInputs}
use Rattle.rx_plan.specs.Planned.{Makes}

-- ---- tables
four : (s : ℕ) → 4 ^ s ≡ 2 ^ s * 2 ^ s
four s = mul-pow 2 2 s

pub entries-are : (s : ℕ) → entries s ≡ plaintexts s
entries-are s = sym (four s)

pub some_entries : (s : ℕ) → 0 < entries s
some_entries s =
    let one : 1 * 1 ≤ 2 ^ s * 2 ^ s = mul-le 1 1 (2 ^ s) (2 ^ s) (pow_pos s) (pow_pos s) in
    omega arith

entries_from : (n : ℕ) (table : List ℕ) → ((i : ℕ) → i < length table → get_or table i 0 < n) → AllByRecursion (λ entry. entry < n) table
entries_from n [] h = tt
entries_from n (x ∷ xs) h = (h 0 (omega arith), entries_from n xs (λ i p. h (suc i) (omega arith)))

pub table_count : (s : ℕ) (table : List ℕ) → IsTable s table → length table ≡ plaintexts s
table_count s table t = t.count ∙ entries-are s

pub table_entries : (s : ℕ) (table : List ℕ) → IsTable s table → AllByRecursion (λ entry. entry < plaintexts s) table
table_entries s table t =
    subst (λ (n : ℕ). AllByRecursion (λ entry. entry < n) table) (entries-are s)
    (entries_from (entries s) table (λ i p. t.each i (omega (arith, t.count))))

-- ---- the greatest entry that is reached
pub greatest_in : (xs : List ℕ) (top : ℕ) → ((i : ℕ) → i < length xs → get_or xs i 0 ≤ top) → greatest_of xs ≤ top
unfolding greatest_of
greatest_in [] top h = omega arith
greatest_in (x ∷ xs) top h =
    let a : x ≤ top = h 0 (omega arith) in
    omega (arith, greatest_in xs top (λ i p. h (suc i) (omega arith)))

between_in : (table : List ℕ) (low high top : ℕ) → high < length table → ((i : ℕ) → i ≤ high → get_or table i 0 ≤ top) → greatest_between table low high ≤ top
unfolding greatest_between
between_in table low high top l h =
    let n : length (slice_range table low (suc high)) ≡ suc high - low = length-between table low (suc high) (omega arith) in
    greatest_in (slice_range table low (suc high)) top (λ i p.
    let e : get_or (slice_range table low (suc high)) i 0 ≡ get_or table (low + i) 0 = get_or-between table low (suc high) i 0 (omega arith) in
    omega (arith, h (low + i) (omega arith)))

deepest_in : (f : ℕ → ℕ) (d : ℕ) (ts : List Term) → AllByRecursion (λ t. f t.cell ≤ d) ts → greatest_of (map (λ t. f t.cell) ts) ≤ d
unfolding greatest_of
deepest_in f d [] h = omega arith
deepest_in f d (t ∷ ts) h = omega (arith, h.0, deepest_in f d ts h.1)

-- ---- a job that was placed, as a planner sees it
pub job_makes : (old new : Net) (c : ℕ) (ts : List Term) (k : ℤ) (table : List ℕ) (O : (ℕ → Type 0) → Type 0) (most : ℕ) (at : (ℕ → ℕ) → ℕ)
    → JobFits old.space (cell_count old) (degree old) (noise old) ts k table → AddsJob old new c ts k table
    → ((P : ℕ → Type 0) → O P → AllByRecursion (λ t. P t.cell) ts) → natural (high_of (degree old) k ts) ≡ most
    → ((inputs : List ℕ) → AreInputs old inputs → natural (value_of (value old inputs) k ts) ≡ at (value old inputs))
    → Makes old new c O most at table
job_makes old new c ts k table O most at f h o m v = record {
  extends = h.extends;
  bounded = h.bounded;
  cell = h.cell;
  count = omega (arith, h.count);
  noise_is = h.noise_is;
  degree_in = λ top b.
      let l : natural (high_of (degree old) k ts) < length table = high_within old.space (cell_count old) (degree old) (noise old) ts k table f in
      let g : reached (degree old) ts k table ≤ top = between_in table (natural (low_of (degree old) k ts)) (natural (high_of (degree old) k ts)) top l (λ i p. b i (omega arith)) in
      omega (arith, h.degree_is);
  depth_in = λ d q. omega (arith, h.depth_is, deepest_in (depth old) d ts (o (λ c. depth old c ≤ d) q));
  value_is = λ xs w. h.value_is xs w ∙ ap (λ i. get_or table i 0) (v xs w);
}

pub natural_is : (z : ℤ) (n : ℕ) → z ≡ pos n → natural z ≡ n
natural_is z n e = ap natural e

-- what is less than the number of entries, as an integer
pub below_entries : (s : ℕ) (z : ℤ) (n : ℕ) → z ≡ pos n → n < entries s → z <ℤ pos (plaintexts s)
below_entries s z n e p = let q : n < plaintexts s = omega (arith, entries-are s) in omega (arith, ints)

-- ---- no operands
pub fixed_fits : (s count : ℕ) (d ns : ℕ → ℕ) (table : List ℕ) → IsTable s table → 0 < entries s → JobFits s count d ns [] (pos 0) table
fixed_fits s count d ns table t z = record {
  forward = tt;
  low = omega (arith, ints);
  high = below_entries s (pos 0) 0 refl z;
  noise_in = omega arith;
  table_count = table_count s table t;
  table_entries = table_entries s table t;
}

-- ---- one operand
abbrev pub single_terms : ℕ → List Term
single_terms a = record { cell = a; weight = pos 1 } ∷ []

single_high : (a : ℕ) (d : ℕ → ℕ) → high_of d (pos 0) (single_terms a) ≡ pos (d a)
single_high a d = omega (arith, ints)

single_at : (a : ℕ) (v : ℕ → ℕ) → value_of v (pos 0) (single_terms a) ≡ pos (v a)
single_at a v = omega (arith, ints)

pub single_fits : (s count : ℕ) (d ns : ℕ → ℕ) (a : ℕ) (table : List ℕ) → a < count → d a < entries s → ns a ≤ 2 ^ s + 1 → IsTable s table
    → JobFits s count d ns (single_terms a) (pos 0) table
single_fits s count d ns a table p r n t = record {
  forward = (p, tt);
  low = omega (arith, ints);
  high = below_entries s (high_of d (pos 0) (single_terms a)) (d a) (single_high a d) r;
  noise_in = omega arith;
  table_count = table_count s table t;
  table_entries = table_entries s table t;
}

pub single_makes : (old new : Net) (c a : ℕ) (table : List ℕ) → JobFits old.space (cell_count old) (degree old) (noise old) (single_terms a) (pos 0) table
    → AddsJob old new c (single_terms a) (pos 0) table → Makes old new c (λ P. P a) (degree old a) (λ v. v a) table
single_makes old new c a table f h =
    job_makes old new c (single_terms a) (pos 0) table (λ P. P a) (degree old a) (λ v. v a) f h (λ P p. (p, tt))
    (natural_is _ (degree old a) (single_high a (degree old))) (λ xs w. natural_is _ (value old xs a) (single_at a (value old xs)))

-- ---- two operands
abbrev pub pair_terms : ℤ → ℕ → ℕ → List Term
pair_terms w a b = record { cell = a; weight = w } ∷ record { cell = b; weight = pos 1 } ∷ []

pair_high : (f a b : ℕ) (d : ℕ → ℕ) → high_of d (pos 0) (pair_terms (pos f) a b) ≡ pos (f * d a + d b)
pair_high f a b d = omega (arith, ints)

pair_at : (f a b : ℕ) (d : ℕ → ℕ) → value_of d (pos 0) (pair_terms (pos f) a b) ≡ pos (f * d a + d b)
pair_at f a b d = omega (arith, ints)

pair_fits_pos : (s count : ℕ) (d ns : ℕ → ℕ) (f a b : ℕ) (table : List ℕ) → a < count → b < count → f * d a + d b < entries s → f * ns a + ns b ≤ 2 ^ s + 1 → IsTable s table
    → JobFits s count d ns (pair_terms (pos f) a b) (pos 0) table
pair_fits_pos s count d ns f a b table p q r n t = record {
  forward = (p, (q, tt));
  low = omega (arith, ints);
  high = below_entries s (high_of d (pos 0) (pair_terms (pos f) a b)) (f * d a + d b) (pair_high f a b d) r;
  noise_in = omega arith;
  table_count = table_count s table t;
  table_entries = table_entries s table t;
}

pub pair_fits : (s count : ℕ) (d ns : ℕ → ℕ) (w : ℤ) (f a b : ℕ) (table : List ℕ) → w ≡ pos f → a < count → b < count → f * d a + d b < entries s → f * ns a + ns b ≤ 2 ^ s + 1 → IsTable s table
    → JobFits s count d ns (pair_terms w a b) (pos 0) table
pair_fits s count d ns w f a b table e p q r n t = subst (λ (w : ℤ). JobFits s count d ns (pair_terms w a b) (pos 0) table) (sym e) (pair_fits_pos s count d ns f a b table p q r n t)

pub pair_makes : (old new : Net) (c : ℕ) (w : ℤ) (f a b : ℕ) (table : List ℕ) → w ≡ pos f
    → JobFits old.space (cell_count old) (degree old) (noise old) (pair_terms w a b) (pos 0) table → AddsJob old new c (pair_terms w a b) (pos 0) table
    → Makes old new c (λ P. P a × P b) (f * degree old a + degree old b) (λ v. f * v a + v b) table
pair_makes old new c w f a b table e g h =
    job_makes old new c (pair_terms w a b) (pos 0) table (λ P. P a × P b) (f * degree old a + degree old b) (λ v. f * v a + v b) g h (λ P p. (p.0, (p.1, tt)))
    (ap (λ w. natural (high_of (degree old) (pos 0) (pair_terms w a b))) e ∙ natural_is _ (f * degree old a + degree old b) (pair_high f a b (degree old)))
    (λ xs i. ap (λ w. natural (value_of (value old xs) (pos 0) (pair_terms w a b))) e ∙ natural_is _ (f * value old xs a + value old xs b) (pair_at f a b (value old xs)))

-- ---- three operands
abbrev pub triple_terms : ℕ → ℕ → ℕ → List Term
triple_terms a b c = record { cell = a; weight = pos 1 } ∷ record { cell = b; weight = pos 1 } ∷ record { cell = c; weight = pos 1 } ∷ []

triple_high : (a b c : ℕ) (d : ℕ → ℕ) → high_of d (pos 0) (triple_terms a b c) ≡ pos (d a + d b + d c)
triple_high a b c d = omega (arith, ints)

triple_at : (a b c : ℕ) (d : ℕ → ℕ) → value_of d (pos 0) (triple_terms a b c) ≡ pos (d a + d b + d c)
triple_at a b c d = omega (arith, ints)

pub triple_fits : (s count : ℕ) (d ns : ℕ → ℕ) (a b c : ℕ) (table : List ℕ) → a < count → b < count → c < count → d a + d b + d c < entries s → ns a + ns b + ns c ≤ 2 ^ s + 1 → IsTable s table
    → JobFits s count d ns (triple_terms a b c) (pos 0) table
triple_fits s count d ns a b c table p q u r n t = record {
  forward = (p, (q, (u, tt)));
  low = omega (arith, ints);
  high = below_entries s (high_of d (pos 0) (triple_terms a b c)) (d a + d b + d c) (triple_high a b c d) r;
  noise_in = omega arith;
  table_count = table_count s table t;
  table_entries = table_entries s table t;
}

pub triple_makes : (old new : Net) (k a b c : ℕ) (table : List ℕ) → JobFits old.space (cell_count old) (degree old) (noise old) (triple_terms a b c) (pos 0) table
    → AddsJob old new k (triple_terms a b c) (pos 0) table
    → Makes old new k (λ P. P a × P b × P c) (degree old a + degree old b + degree old c) (λ v. v a + v b + v c) table
triple_makes old new k a b c table f h =
    job_makes old new k (triple_terms a b c) (pos 0) table (λ P. P a × P b × P c) (degree old a + degree old b + degree old c) (λ v. v a + v b + v c) f h (λ P p. (p.0, (p.1, (p.2, tt))))
    (natural_is _ (degree old a + degree old b + degree old c) (triple_high a b c (degree old))) (λ xs i. natural_is _ (value old xs a + value old xs b + value old xs c) (triple_at a b c (value old xs)))

-- ---- a base, a cell more and a cell less
abbrev pub minus_terms : ℕ → ℕ → List Term
minus_terms a b = record { cell = a; weight = pos 1 } ∷ record { cell = b; weight = negsuc 0 } ∷ []

minus_high : (u a b : ℕ) (d : ℕ → ℕ) → high_of d (pos u) (minus_terms a b) ≡ pos (u + d a)
minus_high u a b d = omega (arith, ints)

minus_at : (u a b : ℕ) (v : ℕ → ℕ) → v b ≤ u → value_of v (pos u) (minus_terms a b) ≡ pos (u + v a - v b)
minus_at u a b v h = omega (arith, ints)

minus_fits_pos : (s count : ℕ) (d ns : ℕ → ℕ) (u a b : ℕ) (table : List ℕ) → a < count → b < count → d b ≤ u → u + d a < entries s → ns a + ns b ≤ 2 ^ s + 1 → IsTable s table
    → JobFits s count d ns (minus_terms a b) (pos u) table
minus_fits_pos s count d ns u a b table p q l r n t = record {
  forward = (p, (q, tt));
  low = omega (arith, ints);
  high = below_entries s (high_of d (pos u) (minus_terms a b)) (u + d a) (minus_high u a b d) r;
  noise_in = omega arith;
  table_count = table_count s table t;
  table_entries = table_entries s table t;
}

pub minus_fits : (s count : ℕ) (d ns : ℕ → ℕ) (k : ℤ) (u a b : ℕ) (table : List ℕ) → k ≡ pos u → a < count → b < count → d b ≤ u → u + d a < entries s → ns a + ns b ≤ 2 ^ s + 1 → IsTable s table
    → JobFits s count d ns (minus_terms a b) k table
minus_fits s count d ns k u a b table e p q l r n t = subst (λ (k : ℤ). JobFits s count d ns (minus_terms a b) k table) (sym e) (minus_fits_pos s count d ns u a b table p q l r n t)

pub minus_makes : (old new : Net) (c : ℕ) (k : ℤ) (u a b : ℕ) (table : List ℕ) → k ≡ pos u → IsBounded old → b < cell_count old → degree old b ≤ u
    → JobFits old.space (cell_count old) (degree old) (noise old) (minus_terms a b) k table → AddsJob old new c (minus_terms a b) k table
    → Makes old new c (λ P. P a × P b) (u + degree old a) (λ v. u + v a - v b) table
minus_makes old new c k u a b table e bounded q l g h =
    job_makes old new c (minus_terms a b) k table (λ P. P a × P b) (u + degree old a) (λ v. u + v a - v b) g h (λ P p. (p.0, (p.1, tt)))
    (ap (λ k. natural (high_of (degree old) k (minus_terms a b))) e ∙ natural_is _ (u + degree old a) (minus_high u a b (degree old)))
    (λ xs w.
    let m : value old xs b ≤ degree old b = bounded xs w b q in
    ap (λ k. natural (value_of (value old xs) k (minus_terms a b))) e ∙ natural_is _ (u + value old xs a - value old xs b) (minus_at u a b (value old xs) (omega arith)))

-- ---- and two cells less
abbrev pub borrow_terms : ℕ → ℕ → ℕ → List Term
borrow_terms a b c = record { cell = a; weight = pos 1 } ∷ record { cell = b; weight = negsuc 0 } ∷ record { cell = c; weight = negsuc 0 } ∷ []

borrow_high : (u a b c : ℕ) (d : ℕ → ℕ) → high_of d (pos u) (borrow_terms a b c) ≡ pos (u + d a)
borrow_high u a b c d = omega (arith, ints)

borrow_at : (u a b c : ℕ) (v : ℕ → ℕ) → v b + v c ≤ u → value_of v (pos u) (borrow_terms a b c) ≡ pos (u + v a - (v b + v c))
borrow_at u a b c v h = omega (arith, ints)

borrow_fits_pos : (s count : ℕ) (d ns : ℕ → ℕ) (u a b c : ℕ) (table : List ℕ) → a < count → b < count → c < count → d b + d c ≤ u → u + d a < entries s
    → ns a + ns b + ns c ≤ 2 ^ s + 1 → IsTable s table → JobFits s count d ns (borrow_terms a b c) (pos u) table
borrow_fits_pos s count d ns u a b c table p q o l r n t = record {
  forward = (p, (q, (o, tt)));
  low = omega (arith, ints);
  high = below_entries s (high_of d (pos u) (borrow_terms a b c)) (u + d a) (borrow_high u a b c d) r;
  noise_in = omega arith;
  table_count = table_count s table t;
  table_entries = table_entries s table t;
}

pub borrow_fits : (s count : ℕ) (d ns : ℕ → ℕ) (k : ℤ) (u a b c : ℕ) (table : List ℕ) → k ≡ pos u → a < count → b < count → c < count → d b + d c ≤ u → u + d a < entries s
    → ns a + ns b + ns c ≤ 2 ^ s + 1 → IsTable s table → JobFits s count d ns (borrow_terms a b c) k table
borrow_fits s count d ns k u a b c table e p q o l r n t =
    subst (λ (k : ℤ). JobFits s count d ns (borrow_terms a b c) k table) (sym e) (borrow_fits_pos s count d ns u a b c table p q o l r n t)

pub borrow_makes : (old new : Net) (i : ℕ) (k : ℤ) (u a b c : ℕ) (table : List ℕ) → k ≡ pos u → IsBounded old → b < cell_count old → c < cell_count old → degree old b + degree old c ≤ u
    → JobFits old.space (cell_count old) (degree old) (noise old) (borrow_terms a b c) k table → AddsJob old new i (borrow_terms a b c) k table
    → Makes old new i (λ P. P a × P b × P c) (u + degree old a) (λ v. u + v a - (v b + v c)) table
borrow_makes old new i k u a b c table e bounded q o l g h =
    job_makes old new i (borrow_terms a b c) k table (λ P. P a × P b × P c) (u + degree old a) (λ v. u + v a - (v b + v c)) g h (λ P p. (p.0, (p.1, (p.2, tt))))
    (ap (λ k. natural (high_of (degree old) k (borrow_terms a b c))) e ∙ natural_is _ (u + degree old a) (borrow_high u a b c (degree old)))
    (λ xs w.
    let m : value old xs b ≤ degree old b = bounded xs w b q in
    let n : value old xs c ≤ degree old c = bounded xs w c o in
    ap (λ k. natural (value_of (value old xs) k (borrow_terms a b c))) e ∙ natural_is _ (u + value old xs a - (value old xs b + value old xs c)) (borrow_at u a b c (value old xs) (omega arith)))
