-- The bits of a number by its digits, and whether it has any from a bit on.
use Rattle.std.proofs.Common.{◌≡◌, ℕ, zero, suc, ◌+◌, ◌-◌, ◌*◌, ◌/◌, ◌%◌, ◌^◌, ◌<◌, ◌≤◌, refl, sym, ◌∙◌, ap, arith, pow-add, subst}
use Rattle.std.proofs.lemmas.Nat.{pow_pos, mul-le, div-mul-add, field_of, shr-shr}
use Rattle.std.proofs.Math.Nat.{add-mul-div_left}
use Rattle.std.proofs.Math.Pow.{mod-mod-pow}
use Rattle.rx_params.specs.Kinds.{digit_at}
use Rattle.rx_plan.specs.Values.{number, total}
use Rattle.rx_plan.proofs.Numbers.{number_front, pow_pow}
use Rattle.rx_plan.proofs.RowLaws.{number_split}
use Rattle.rx_plan.proofs.Totals.{total_same, total_front}
use Rattle.rx_plan.proofs.Held.{number_small}
use Rattle.rx_cmp.specs.Groups.{is_some}
use Rattle.rx_cmp.proofs.Grouping.{some_add}
use Rattle.rx_shift.specs.Amount.{bit_at, is_wide}

-- a bit of a number is a bit of one of its digits
pub bit_in : (m q r z : ℕ) → r < m → bit_at (digit_at m z q) r ≡ bit_at z (m * q + r)
bit_in m q r z h =
    let b : ℕ = z / 2 ^ (m * q) in
    let e : m ≡ m - (1 + r) + (1 + r) = omega arith in
    let s : b % 2 ^ m % 2 ^ (1 + r) ≡ b % 2 ^ (1 + r) = ap (λ k. b % 2 ^ k % 2 ^ (1 + r)) e ∙ mod-mod-pow b (m - (1 + r)) (1 + r) in
    sym (field_of (b % 2 ^ m) 1 r) ∙ ap (λ y. y / 2 ^ r) s ∙ field_of b 1 r ∙ ap (λ y. y % 2) (shr-shr z (m * q) r)

some_scale : (c n : ℕ) → 1 ≤ c → is_some (c * n) ≡ is_some n
some_scale c zero h = let e : c * 0 ≡ 0 = omega arith in ap is_some e
some_scale c (suc n) h =
    let k : 1 * 1 ≤ c * suc n = mul-le 1 1 c (suc n) h (omega arith) in
    let e : c * suc n ≡ suc (c * suc n - 1) = omega arith in
    ap is_some e

-- a number is 0 where all its digits are
some_number : (m n : ℕ) (f : ℕ → ℕ) → is_some (number (2 ^ m) n f) ≡ is_some (total n f)
unfolding number total
some_number m zero f = refl
some_number m (suc n) f =
    let u : ℕ = 2 ^ m in
    let p : 1 ≤ u ^ n = subst (λ (k : ℕ). 1 ≤ k) (sym (pow_pow m n)) (pow_pos (m * n)) in
    some_add (number u n f) (u ^ n * f n)
    ∙ ap (λ x. is_some (x + is_some (u ^ n * f n))) (some_number m n f)
    ∙ ap (λ x. is_some (is_some (total n f) + x)) (some_scale (u ^ n) (f n) p)
    ∙ sym (some_add (total n f) (f n))

-- the number from a digit on
number_from : (m q k : ℕ) (f : ℕ → ℕ) → ((i : ℕ) → i < q → f i < 2 ^ m)
    → number (2 ^ m) (q + k) f / 2 ^ (m * q) ≡ number (2 ^ m) k (λ i. f (q + i))
number_from m q k f h =
    let low : ℕ = number (2 ^ m) q f in
    let high : ℕ = number (2 ^ m) k (λ i. f (q + i)) in
    let p : (2 ^ m) ^ q * high ≡ 2 ^ (m * q) * high = ap (λ x. x * high) (pow_pow m q) in
    let s : number (2 ^ m) (q + k) f ≡ high * 2 ^ (m * q) + low = omega (arith, number_split (2 ^ m) q k f) in
    ap (λ x. x / 2 ^ (m * q)) s ∙ div-mul-add high (2 ^ (m * q)) low (number_small m q f h)

-- the digit that is shared, from the bit on, and the digits above it
abbrev pub node_value : ℕ → ℕ → (ℕ → ℕ) → ℕ → ℕ
node_value q r f zero = f q / 2 ^ r
node_value q r f (suc i) = f (q + suc i)

-- they tell whether the number has a bit from there on
pub wide_by_nodes : (m q r k : ℕ) (f : ℕ → ℕ) → r ≤ m → ((i : ℕ) → i < q → f i < 2 ^ m)
    → is_some (total (suc k) (node_value q r f)) ≡ is_wide (number (2 ^ m) (q + suc k) f) (m * q + r)
wide_by_nodes m q r k f l h =
    let u : ℕ = 2 ^ m in
    let c : ℕ = 2 ^ (m - r) in
    let z : ℕ = number u (q + suc k) f in
    let rest : ℕ → ℕ = λ i. f (q + suc i) in
    let high : ℕ = number u k rest in
    let top : ℕ = f q / 2 ^ r in
    let parts : m ≡ m - r + r = omega arith in
    let e : u ≡ c * 2 ^ r = ap (λ x. 2 ^ x) parts ∙ pow-add 2 (m - r) r in
    let w : u * high ≡ c * 2 ^ r * high = ap (λ x. x * high) e in
    let zero_place : q + 0 ≡ q = omega arith in
    let first : f (q + 0) ≡ f q = ap f zero_place in
    let sum : number u (suc k) (λ i. f (q + i)) ≡ f q + 2 ^ r * (c * high) = omega (arith, number_front u k (λ i. f (q + i))) in
    let whole : z / 2 ^ (m * q + r) ≡ top + c * high =
    sym (shr-shr z (m * q) r) ∙ ap (λ x. x / 2 ^ r) (number_from m q (suc k) f h) ∙ ap (λ x. x / 2 ^ r) sum
    ∙ add-mul-div_left (f q) (c * high) (pow_pos r) in
    ap is_some (total_front k (node_value q r f))
    ∙ some_add top (total k rest)
    ∙ ap (λ x. is_some (is_some top + x)) (sym (some_number m k rest))
    ∙ ap (λ x. is_some (is_some top + x)) (sym (some_scale c high (pow_pos (m - r))))
    ∙ sym (some_add top (c * high))
    ∙ ap is_some (sym whole)
