-- A key as the bits of its polynomials, one after another.
use Rattle.std.proofs.Common.{◌≡◌, ℕ, ◌+◌, ◌-◌, ◌*◌, ◌/◌, ◌%◌, ◌<◌, ◌≤◌, ◌⊎◌, inl, inr, sym, ◌∙◌, ap, arith, List, [], ◌∷◌, ◌++◌, append_assoc, length, get_or, map, length-append}
use Rattle.std.specs.List.{range_with_len}
use Rattle.std.proofs.Math.ListN.{get_or-append}
use Rattle.std.proofs.lemmas.List.{get_or-append_right}
use Rattle.std.proofs.lemmas.List.FromFn.{length-map-range_with_len, get_or-map-range_with_len, map-range_with_len_more, fill_by_all}
use Rattle.std.proofs.lemmas.Bool.{cases_lt}
use Rattle.std.proofs.lemmas.Nat.{div-mul-add, mod-mul-add, pow_pos}
use Rattle.std.proofs.Math.Nat.{mul-le-mul_right}
use Rattle.rx_params.specs.declared.params.Params.{Params}
use Rattle.rx_params.specs.Derived.{large_dim}
use Rattle.rx_params.specs.Acceptance.{FieldsInRange}
use Rattle.rx_torus.specs.Streams.{torus_word}
use Rattle.rx_lwe.specs.Secret.{key_bit, large_key, small_bit, small_key}

-- bit i of a stream of a seed
abbrev pub stream_bit : List ℕ → ℕ → ℕ → ℕ
stream_bit seed number i = torus_word seed number i % 2

-- one more bit of a row
pub row-more : (f : ℕ → ℕ) (old xs : List ℕ) (n bit : ℕ) → xs ≡ old ++ map f (range_with_len 0 n) → bit ≡ f n →
    xs ++ bit ∷ [] ≡ old ++ map f (range_with_len 0 (n + 1))
row-more f old xs n bit before last =
    ap (λ ys. ys ++ bit ∷ []) before
    ∙ append_assoc old (map f (range_with_len 0 n)) (bit ∷ [])
    ∙ ap (λ b. old ++ (map f (range_with_len 0 n) ++ b ∷ [])) last
    ∙ ap (λ ys. old ++ ys) (sym (map-range_with_len_more f 0 n n (omega arith)))

-- the list has the bits of the first rows, each of n
pub record HasRows (n rows : ℕ) (f : ℕ → ℕ → ℕ) (xs : List ℕ) : Type 0 where
  pub count : length xs ≡ rows * n
  pub each : (u : ℕ) → u < rows * n → get_or xs u 0 ≡ f (u / n) (u % n)

row_at : (n rows u : ℕ) (f : ℕ → ℕ → ℕ) (xs : List ℕ) → HasRows n rows f xs → u < (rows + 1) * n →
    (u < rows * n) ⊎ (rows * n ≤ u) → get_or (xs ++ map (f rows) (range_with_len 0 n)) u 0 ≡ f (u / n) (u % n)
row_at n rows u f xs has p (inl q) =
    get_or-append xs (map (f rows) (range_with_len 0 n)) 0 u (omega (arith, has.count)) ∙ has.each u q
row_at n rows u f xs has p (inr q) =
    let i : ℕ = u - rows * n in
    let r : i < n = omega arith in
    let e : rows * n + i ≡ u = omega arith in
    let d : u / n ≡ rows = ap (λ x. x / n) (sym e) ∙ div-mul-add rows n i r in
    let m : u % n ≡ i = ap (λ x. x % n) (sym e) ∙ mod-mul-add rows n i r in
    get_or-append_right xs (map (f rows) (range_with_len 0 n)) (rows * n) u 0 has.count q
    ∙ get_or-map-range_with_len (f rows) 0 n i i 0 r (omega arith)
    ∙ ap (λ x. f x i) (sym d) ∙ ap (λ x. f (u / n) x) (sym m)

pub HasRows-more : (n rows : ℕ) (f : ℕ → ℕ → ℕ) (xs : List ℕ) → HasRows n rows f xs →
    HasRows n (rows + 1) f (xs ++ map (f rows) (range_with_len 0 n))
HasRows-more n rows f xs has = record {
  count = omega (arith, has.count, length-append xs (map (f rows) (range_with_len 0 n)), length-map-range_with_len (f rows) 0 n);
  each = λ u p. row_at n rows u f xs has p (cases_lt u (rows * n));
}

pub HasRows-bits : (n rows : ℕ) (seed xs : List ℕ) → HasRows n rows (key_bit seed) xs →
    (u : ℕ) → u < length xs → get_or xs u 0 < 2
HasRows-bits n rows seed xs has u p =
    let e : get_or xs u 0 ≡ key_bit seed (u / n) (u % n) = has.each u (omega (arith, has.count)) in
    omega (arith, e)

-- a key has one polynomial or more, and a polynomial has one coefficient or more
pub large_dim-some : (p : Params) → FieldsInRange p → 0 < large_dim p
unfolding large_dim
large_dim-some p fields =
    let size : 1 ≤ p.poly_size = omega (arith, pow_pos fields.poly_size.0, fields.poly_size.2) in
    omega (arith, mul-le-mul_right p.poly_size fields.glwe_dim.0, size)

pub large_key-is : (p : Params) (seed xs : List ℕ) (rows : ℕ) → rows ≡ p.glwe_dim →
    HasRows p.poly_size rows (key_bit seed) xs → xs ≡ large_key p seed
unfolding large_dim large_key
large_key-is p seed xs rows all has =
    let f : ℕ → ℕ = λ u. key_bit seed (u / p.poly_size) (u % p.poly_size) in
    fill_by_all f xs (rows * p.poly_size) 0 has.count has.each
    ∙ ap (λ (k : ℕ). map f (range_with_len 0 (k * p.poly_size))) all

-- the large key has as many bits as blocks have dimensions
pub large_key-length : (p : Params) (seed : List ℕ) → length (large_key p seed) ≡ large_dim p
unfolding large_key
large_key-length p seed = length-map-range_with_len (λ u. key_bit seed (u / p.poly_size) (u % p.poly_size)) 0 (large_dim p)

pub small_key-is : (p : Params) (seed old xs : List ℕ) → old ≡ [] → xs ≡ old ++ map (small_bit seed) (range_with_len 0 p.lwe_dim) →
    xs ≡ small_key p seed
unfolding small_key
small_key-is p seed old xs none e = e ∙ ap (λ ys. ys ++ map (small_bit seed) (range_with_len 0 p.lwe_dim)) none

pub small_key-length : (p : Params) (seed : List ℕ) → length (small_key p seed) ≡ p.lwe_dim
unfolding small_key
small_key-length p seed = length-map-range_with_len (small_bit seed) 0 p.lwe_dim

pub small_key-bits : (p : Params) (seed xs : List ℕ) → xs ≡ small_key p seed → (u : ℕ) → u < length xs → get_or xs u 0 < 2
unfolding small_key
small_key-bits p seed xs e u below =
    let n : ℕ = p.lwe_dim in
    let count : length xs ≡ n = ap length e ∙ small_key-length p seed in
    let here : get_or xs u 0 ≡ small_bit seed u =
    ap (λ ys. get_or ys u 0) e ∙ get_or-map-range_with_len (small_bit seed) 0 n u u 0 (omega (arith, count)) (omega arith) in
    omega (arith, here)
