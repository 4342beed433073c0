-- Sums over terms.
use Rattle.std.proofs.Common.{◌≡◌, ℕ, ℤ, pos, suc, ◌+◌, ◌*◌, ◌^◌, ◌<◌, ◌≤◌, ◌+ℤ◌, ◌*ℤ◌, List, [], ◌∷◌, length, get_or, drop, sym, ◌∙◌, ap, arith, subst, drop-cons, add-one}
use Rattle.std.proofs.lemmas.Int.{ints}
use Rattle.std.proofs.lemmas.List.{drop_all}
use Rattle.std.proofs.lemmas.List.Elements.{All-from_recursion}
use Rattle.std.specs.List.{AllByRecursion}
use Rattle.std.specs.Int.RustNames.{unsigned_abs}
use Rattle.rx_net.specs.declared.term.Term.{Term}
use Rattle.rx_net.specs.Tags.{sum_of, low_of, high_of, noise_of, negative_part, positive_part}

pub sum_shift : (part : Term → ℤ) (k x : ℤ) (ts : List Term) → sum_of part (k +ℤ x) ts ≡ x +ℤ sum_of part k ts
sum_shift part k x [] = omega (arith, ints)
sum_shift part k x (t ∷ ts) = omega (arith, ints, sum_shift part k x ts)

-- one term less
pub sum_goes_on : (part : Term → ℤ) (k next : ℤ) (ts : List Term) (i : ℕ) (t : Term) → i < length ts → t ≡ get_or ts i t → next ≡ k +ℤ part t
    → sum_of part next (drop (i + 1) ts) ≡ sum_of part k (drop i ts)
sum_goes_on part k next ts i t p e n =
    let d : drop i ts ≡ get_or ts i t ∷ drop (suc i) ts = drop-cons ts i t p in
    let d' : drop i ts ≡ t ∷ drop (suc i) ts = d ∙ ap (λ x. x ∷ drop (suc i) ts) (sym e) in
    rw (add-one, n) (sum_shift part k (part t) (drop (suc i) ts) ∙ sym (ap (sum_of part k) d'))

pub sum_ends : (part : Term → ℤ) (k : ℤ) (ts : List Term) (i : ℕ) → length ts ≤ i → sum_of part k (drop i ts) ≡ k
sum_ends part k ts i p = ap (sum_of part k) (drop_all i ts p)

pub noise_goes_on : (noise : ℕ → ℕ) (ts : List Term) (i : ℕ) (t : Term) → i < length ts → t ≡ get_or ts i t
    → noise_of noise (drop i ts) ≡ unsigned_abs t.weight * noise t.cell + noise_of noise (drop (i + 1) ts)
noise_goes_on noise ts i t p e =
    let d : drop i ts ≡ get_or ts i t ∷ drop (suc i) ts = drop-cons ts i t p in
    rw add-one (ap (noise_of noise) (d ∙ ap (λ x. x ∷ drop (suc i) ts) (sym e)))

pub at_place : {A : Type 0} (P : A → Type 0) (xs : List A) (i : ℕ) (x : A) → AllByRecursion P xs → i < length xs → x ≡ get_or xs i x → P x
at_place P xs i x h p e = subst P (sym e) (All-from_recursion P xs h i x p)

-- the sums over the first terms, and their sizes
pub record IsSummed (degree noise : ℕ → ℕ) (constant : ℤ) (ts : List Term) (i : ℕ) (low high : ℤ) (sum : ℕ) : Type 0 where
  pub low_is : low_of degree low (drop i ts) ≡ low_of degree constant ts
  pub high_is : high_of degree high (drop i ts) ≡ high_of degree constant ts
  pub noise_is : sum + noise_of noise (drop i ts) ≡ noise_of noise ts
  pub low_size : unsigned_abs low ≤ 2 ^ 15 + i * 2 ^ 15
  pub high_size : unsigned_abs high ≤ 2 ^ 15 + i * 2 ^ 15
  pub noise_size : sum ≤ i * 2 ^ 15

pub summed_none : (degree noise : ℕ → ℕ) (constant : ℤ) (ts : List Term) (low high : ℤ) (sum : ℕ) → low ≡ constant → high ≡ constant → sum ≡ 0
    → unsigned_abs low ≤ 2 ^ 15 → unsigned_abs high ≤ 2 ^ 15 → IsSummed degree noise constant ts 0 low high sum
summed_none degree noise constant ts low high sum x y z low_small high_small = record {
  low_is = ap (λ k. low_of degree k ts) x;
  high_is = ap (λ k. high_of degree k ts) y;
  noise_is = let e : sum + noise_of noise ts ≡ noise_of noise ts = omega (arith, z) in e;
  low_size = omega arith;
  high_size = omega arith;
  noise_size = omega arith;
}

pub summed_more : (degree noise : ℕ → ℕ) (constant : ℤ) (ts : List Term) (i : ℕ) (low high : ℤ) (sum : ℕ) → IsSummed degree noise constant ts i low high sum
    → (t : Term) → i < length ts → t ≡ get_or ts i t → (w : ℤ) (d m : ℕ) → w ≡ t.weight → d ≡ degree t.cell → m ≡ noise t.cell
    → (low' high' : ℤ) (sum' : ℕ) → low' ≡ low +ℤ negative_part w *ℤ pos d → high' ≡ high +ℤ positive_part w *ℤ pos d → sum' ≡ sum + unsigned_abs w * m
    → unsigned_abs low' ≤ unsigned_abs low + 2 ^ 15 → unsigned_abs high' ≤ unsigned_abs high + 2 ^ 15 → sum' ≤ sum + 2 ^ 15
    → IsSummed degree noise constant ts (i + 1) low' high' sum'
summed_more degree noise constant ts i low high sum h t p e w d m w_is d_is m_is low' high' sum' x y z low_small high_small noise_small = record {
  low_is = sum_goes_on (λ t. negative_part t.weight *ℤ pos (degree t.cell)) low low' ts i t p e (x ∙ ap (λ w. low +ℤ negative_part w *ℤ pos d) w_is ∙ ap (λ d. low +ℤ negative_part t.weight *ℤ pos d) d_is) ∙ h.low_is;
  high_is = sum_goes_on (λ t. positive_part t.weight *ℤ pos (degree t.cell)) high high' ts i t p e (y ∙ ap (λ w. high +ℤ positive_part w *ℤ pos d) w_is ∙ ap (λ d. high +ℤ positive_part t.weight *ℤ pos d) d_is) ∙ h.high_is;
  noise_is =
      let z' : sum' ≡ sum + unsigned_abs t.weight * noise t.cell = z ∙ ap (λ w. sum + unsigned_abs w * m) w_is ∙ ap (λ m. sum + unsigned_abs t.weight * m) m_is in
      omega (arith, h.noise_is, noise_goes_on noise ts i t p e);
  low_size = omega (arith, h.low_size);
  high_size = omega (arith, h.high_size);
  noise_size = omega (arith, h.noise_size);
}
