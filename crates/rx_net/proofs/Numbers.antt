-- The digits of a number, and the number of some digits.
use Rattle.std.proofs.Common.{pow-add, ◌≡◌, ℕ, zero, suc, ◌+◌, ◌*◌, ◌/◌, ◌%◌, ◌^◌, ◌<◌, ◌≤◌, refl, sym, ◌∙◌, ap, arith, List, [], ◌∷◌, map, length}
use Rattle.std.specs.List.{range_with_len}
use Rattle.std.proofs.Math.Nat.{mod-add-div, div-div-eq-div-mul, lt_of_mul-lt-mul_left, mul-le-mul_left}
use Rattle.std.proofs.lemmas.Nat.{pow_pos, mod_below, div-mul-add, mod-mul-add}
use Rattle.rx_params.specs.Kinds.{digit_at}
use Rattle.rx_net.specs.Numbers.{AreDigits, digits_of, number_of}

-- ---- what stands in a number from a place on

power-more : (m n : ℕ) → 2 ^ (m * (n + 1)) ≡ 2 ^ (m * n) * 2 ^ m
power-more m n =
    let e : m * (n + 1) ≡ m * n + m = omega arith in
    ap (λ k. 2 ^ k) e ∙ pow-add 2 (m * n) m

power-suc : (m n : ℕ) → 2 ^ (m * suc n) ≡ 2 ^ (m * n) * 2 ^ m
power-suc m n =
    let one_more : suc n ≡ n + 1 = omega arith in
    ap (λ k. 2 ^ (m * k)) one_more ∙ power-more m n

from_next : (m number start : ℕ) → number / 2 ^ (m * (start + 1)) ≡ number / 2 ^ (m * start) / 2 ^ m
from_next m number start = ap (λ d. number / d) (power-more m start) ∙ sym (div-div-eq-div-mul number (2 ^ (m * start)) (2 ^ m))

from_first : (m number : ℕ) → number / 2 ^ (m * 0) ≡ number
from_first m number =
    let none : m * 0 ≡ 0 = omega arith in
    let one : number / 1 ≡ number = omega arith in
    ap (λ k. number / 2 ^ k) none ∙ one

-- ---- the number of the digits

number_from : (m number start count : ℕ) → number / 2 ^ (m * start) < 2 ^ (m * count) →
    number_of m (map (digit_at m number) (range_with_len start count)) ≡ number / 2 ^ (m * start)
number_from m number start zero below =
    let none : m * 0 ≡ 0 = omega arith in
    let one : 2 ^ (m * 0) ≡ 1 = ap (λ k. 2 ^ k) none in
    omega (arith, below, one)
number_from m number start (suc count) below =
    let here : ℕ = number / 2 ^ (m * start) in
    let next : number / 2 ^ (m * (start + 1)) ≡ here / 2 ^ m = from_next m number start in
    let room : here < 2 ^ (m * count) * 2 ^ m = omega (arith, below, power-suc m count) in
    let less : here / 2 ^ m < 2 ^ (m * count) = lt_of_mul-lt-mul_left (2 ^ m) (omega (arith, room, mod-add-div here (2 ^ m))) in
    let rest : number_of m (map (digit_at m number) (range_with_len (start + 1) count)) ≡ number / 2 ^ (m * (start + 1)) =
    number_from m number (start + 1) count (omega (arith, less, next)) in
    ap (λ later. here % 2 ^ m + 2 ^ m * later) (rest ∙ next) ∙ mod-add-div here (2 ^ m)

pub number_of-digits : (m count number : ℕ) → number < 2 ^ (m * count) → number_of m (digits_of m count number) ≡ number
number_of-digits m count number below =
    let whole : number / 2 ^ (m * 0) ≡ number = from_first m number in
    number_from m number 0 count (omega (arith, below, whole)) ∙ whole

-- ---- the digits of the number

digits_from : (m number start : ℕ) (digits : List ℕ) → AreDigits m digits → number / 2 ^ (m * start) ≡ number_of m digits →
    map (digit_at m number) (range_with_len start (length digits)) ≡ digits
digits_from m number start [] are e = refl
digits_from m number start (d ∷ digits) are e =
    let later : ℕ = number_of m digits in
    let order : d + 2 ^ m * later ≡ later * 2 ^ m + d = omega arith in
    let here : digit_at m number start ≡ d = ap (λ n. n % 2 ^ m) (e ∙ order) ∙ mod-mul-add later (2 ^ m) d are.0 in
    let next : number / 2 ^ (m * (start + 1)) ≡ later =
    from_next m number start ∙ ap (λ n. n / 2 ^ m) (e ∙ order) ∙ div-mul-add later (2 ^ m) d are.0 in
    ap (λ x. x ∷ map (digit_at m number) (range_with_len (start + 1) (length digits))) here
    ∙ ap (λ ds. d ∷ ds) (digits_from m number (start + 1) digits are.1 next)

pub digits_of-number : (m : ℕ) (digits : List ℕ) → AreDigits m digits → digits_of m (length digits) (number_of m digits) ≡ digits
digits_of-number m digits are = digits_from m (number_of m digits) 0 digits are (from_first m (number_of m digits))

-- ---- how great they are

pub number-below : (m : ℕ) (digits : List ℕ) → AreDigits m digits → number_of m digits < 2 ^ (m * length digits)
number-below m [] are = pow_pos (m * 0)
number-below m (d ∷ digits) are =
    let later : number_of m digits + 1 ≤ 2 ^ (m * length digits) = omega (arith, number-below m digits are.1) in
    let room : 2 ^ m * (number_of m digits + 1) ≤ 2 ^ m * 2 ^ (m * length digits) = mul-le-mul_left (2 ^ m) later in
    let digit : d < 2 ^ m = are.0 in
    omega (arith, room, digit, power-suc m (length digits))

small_from : (m number start count : ℕ) → AreDigits m (map (digit_at m number) (range_with_len start count))
small_from m number start zero = tt
small_from m number start (suc count) = (mod_below (number / 2 ^ (m * start)) (2 ^ m) (pow_pos m), small_from m number (start + 1) count)

pub digits-small : (m count number : ℕ) → AreDigits m (digits_of m count number)
digits-small m count number = small_from m number 0 count
