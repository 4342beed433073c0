-- Quotients and remainders, bit by bit.
use Rattle.std.proofs.Common.{◌≡◌, ℕ, zero, suc, ◌+◌, ◌-◌, ◌*◌, ◌/◌, ◌%◌, ◌^◌, ◌<◌, ◌≤◌, refl, sym, ◌∙◌, ap, arith, cond, inl, inr}
use Rattle.std.specs.Prelude.{◌==◌}
use Rattle.std.proofs.lemmas.Bool.{cases_eq, cases_lt, eq-eqb, ne_eqb}
use Rattle.std.proofs.lemmas.Nat.{mod_below, div-add-mod', div-mul-add, mod-mul-add, pow_pos}
use Rattle.std.proofs.Math.Nat.{pow-suc}
use Rattle.rx_residue.specs.Division.{quotient, remainder}

pub quotient_none : (width a : ℕ) → quotient width a 0 ≡ 2 ^ width - 1
unfolding quotient
quotient_none width a = refl

pub remainder_none : (a : ℕ) → remainder a 0 ≡ a
unfolding remainder
remainder_none a = refl

pub quotient_some : (width a b : ℕ) → 0 < b → quotient width a b ≡ a / b
unfolding quotient
quotient_some width a b h = ap (λ c. cond c (2 ^ width - 1) (a / b)) (ne_eqb b 0 (λ e. absurd (omega arith)))

pub remainder_some : (a b : ℕ) → 0 < b → remainder a b ≡ a % b
unfolding remainder
remainder_some a b h = ap (λ c. cond c a (a % b)) (ne_eqb b 0 (λ e. absurd (omega arith)))

pub whole_is : (width a b : ℕ) → 0 < b → a ≡ quotient width a b * b + remainder a b
whole_is width a b h = sym (ap (λ q. q * b + remainder a b) (quotient_some width a b h) ∙ ap (λ r. a / b * b + r) (remainder_some a b h) ∙ div-add-mod' a b)

pub remainder_below : (a b : ℕ) → 0 < b → remainder a b < b
remainder_below a b h = let e : remainder a b ≡ a % b = remainder_some a b h in omega (arith, mod_below a b h)

pub remainder_le : (a b : ℕ) → remainder a b ≤ a
remainder_le a zero = omega (arith, remainder_none a)
remainder_le a (suc b) = omega (arith, whole_is 0 a (suc b) (omega arith))

-- a number that is so many times b and less than b more
pub remainder_is : (a b q r : ℕ) → r < b → a ≡ q * b + r → remainder a b ≡ r
remainder_is a b q r h e = remainder_some a b (omega arith) ∙ ap (λ x. x % b) e ∙ mod-mul-add q b r h

pub quotient_is : (width a b q r : ℕ) → r < b → a ≡ q * b + r → quotient width a b ≡ q
quotient_is width a b q r h e = quotient_some width a b (omega arith) ∙ ap (λ x. x / b) e ∙ div-mul-add q b r h

-- ---- one bit of the number more, below the bits so far: where the divisor is greater than what is left with it, nothing is taken off
pub remainder_keeps : (a b d : ℕ) → 2 * remainder a b + d < b → remainder (2 * a + d) b ≡ 2 * remainder a b + d
remainder_keeps a b d h =
    let w : a ≡ quotient 0 a b * b + remainder a b = whole_is 0 a b (omega arith) in
    remainder_is (2 * a + d) b (2 * quotient 0 a b) (2 * remainder a b + d) h (omega arith)

pub quotient_keeps : (width a b d : ℕ) → 2 * remainder a b + d < b → quotient (suc width) (2 * a + d) b ≡ 2 * quotient width a b
quotient_keeps width a b d h =
    let w : a ≡ quotient width a b * b + remainder a b = whole_is width a b (omega arith) in
    quotient_is (suc width) (2 * a + d) b (2 * quotient width a b) (2 * remainder a b + d) h (omega arith)

-- else the divisor is taken off
pub remainder_less : (a b d : ℕ) → d ≤ 1 → b ≤ 2 * remainder a b + d → remainder (2 * a + d) b ≡ 2 * remainder a b + d - b
remainder_less a zero d l h = omega (arith, remainder_none a, remainder_none (2 * a + d))
remainder_less a (suc n) d l h =
    let b : ℕ = suc n in
    let w : a ≡ quotient 0 a b * b + remainder a b = whole_is 0 a b (omega arith) in
    let r : remainder a b < b = remainder_below a b (omega arith) in
    remainder_is (2 * a + d) b (2 * quotient 0 a b + 1) (2 * remainder a b + d - b) (omega arith) (omega arith)

pub quotient_more : (width a b d : ℕ) → d ≤ 1 → b ≤ 2 * remainder a b + d → quotient (suc width) (2 * a + d) b ≡ 2 * quotient width a b + 1
quotient_more width a zero d l h =
    let p : 2 ^ suc width ≡ 2 ^ width * 2 = pow-suc 2 width in
    omega (arith, quotient_none width a, quotient_none (suc width) (2 * a + d), pow_pos width)
quotient_more width a (suc n) d l h =
    let b : ℕ = suc n in
    let w : a ≡ quotient width a b * b + remainder a b = whole_is width a b (omega arith) in
    let r : remainder a b < b = remainder_below a b (omega arith) in
    quotient_is (suc width) (2 * a + d) b (2 * quotient width a b + 1) (2 * remainder a b + d - b) (omega arith) (omega arith)
