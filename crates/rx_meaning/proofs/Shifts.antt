-- Shifts by many places, masks, and residues of natural numbers.
use Rattle.std.proofs.Common.{◌≡◌, ℕ, ◌+◌, ◌-◌, ◌*◌, ◌/◌, ◌%◌, ◌^◌, ◌<◌, ◌≤◌, min, ℤ, pos, negsuc, refl, sym, ◌∙◌, ap, arith, inl, inr}
use Rattle.std.specs.Prelude.{◌≤ℤ◌, ◌<ℤ◌}
use Rattle.std.specs.Int.{int_div_euclid, int_shr}
use Rattle.std.proofs.lemmas.Bool.{cases_lt}
use Rattle.std.proofs.lemmas.Int.{ints}
use Rattle.std.proofs.lemmas.Nat.{pow-add, pow_pos, div-mul-add, mod-mul-add, shl_whole}
use Rattle.std.proofs.Math.Nat.{pow-le-pow_right, div-eq_of_lt}
use Rattle.rx_residue.specs.Residues.{residue}

pub residue_of : (width n : ℕ) → residue width (pos n) ≡ n % 2 ^ width
unfolding residue
residue_of width n = refl

-- nothing is left of a shift by the width or more
pub residue_far : (width n amount : ℕ) → width ≤ amount → residue width (pos (n * 2 ^ amount)) ≡ 0
residue_far width n amount h =
    let s : (amount - width) + width ≡ amount = omega arith in
    let p : 2 ^ amount ≡ 2 ^ (amount - width) * 2 ^ width = ap (λ k. 2 ^ k) (sym s) ∙ pow-add 2 (amount - width) width in
    let e : n * 2 ^ amount ≡ n * 2 ^ (amount - width) * 2 ^ width + 0 = ap (λ k. n * k) p ∙ omega arith in
    residue_of width (n * 2 ^ amount) ∙ ap (λ k. k % 2 ^ width) e ∙ mod-mul-add (n * 2 ^ (amount - width)) (2 ^ width) 0 (pow_pos width)

-- a shift within 128 bits loses none
pub shift_whole : (n amount : ℕ) → n < 2 ^ 64 → amount < 64 → (n * 2 ^ amount) % 2 ^ 128 ≡ n * 2 ^ amount
shift_whole n amount h k = shl_whole n 64 amount 128 h (omega arith)

-- as many ones as there are bits
ones_by : (p q : ℕ) → 1 ≤ q → ((p + 1) * q - 1) / q ≡ p
ones_by p q h =
    let e : (p + 1) * q - 1 ≡ p * q + (q - 1) = omega arith in
    ap (λ k. k / q) e ∙ div-mul-add p q (q - 1) (omega arith)

pub ones_are : (bits : ℕ) → bits ≤ 64 → (2 ^ 64 - 1) / 2 ^ (64 - bits) ≡ 2 ^ bits - 1
ones_are bits h =
    let s : bits + (64 - bits) ≡ 64 = omega arith in
    let p : 2 ^ 64 ≡ 2 ^ bits * 2 ^ (64 - bits) = ap (λ k. 2 ^ k) (sym s) ∙ pow-add 2 bits (64 - bits) in
    let o : 0 < 2 ^ bits = pow_pos bits in
    let t : 2 ^ bits ≡ (2 ^ bits - 1) + 1 = omega arith in
    let e : 2 ^ 64 - 1 ≡ ((2 ^ bits - 1) + 1) * 2 ^ (64 - bits) - 1 = ap (λ k. k - 1) (p ∙ ap (λ k. k * 2 ^ (64 - bits)) t) in
    ap (λ k. k / 2 ^ (64 - bits)) e ∙ ones_by (2 ^ bits - 1) (2 ^ (64 - bits)) (pow_pos (64 - bits))

-- a quotient by two to 64 and more of a number below it
far : (n amount : ℕ) → n < 2 ^ 64 → n / 2 ^ min amount 64 ≡ n / 2 ^ amount
far n amount h =
    elim (cases_lt amount 64) [
      | inl l ↦ let e : min amount 64 ≡ amount = omega arith in ap (λ k. n / 2 ^ k) e
      | inr l ↦
          let e : min amount 64 ≡ 64 = omega arith in
          let p : 2 ^ 64 ≤ 2 ^ amount = pow-le-pow_right {n = 2} (omega arith) l in
          let a : n / 2 ^ 64 ≡ 0 = div-eq_of_lt h in
          let b : n / 2 ^ amount ≡ 0 = div-eq_of_lt (omega arith) in
          ap (λ k. n / 2 ^ k) e ∙ a ∙ sym b
    ]

pub floor_far : (z : ℤ) (amount : ℕ) → negsuc (2 ^ 64 - 1) ≤ℤ z → z <ℤ pos (2 ^ 64) → int_shr z (min amount 64) ≡ int_div_euclid z (pos (2 ^ amount))
floor_far (pos n) amount l h = let b : n < 2 ^ 64 = omega (arith, ints) in ap pos (far n amount b)
floor_far (negsuc n) amount l h = let b : n < 2 ^ 64 = omega (arith, ints) in ap negsuc (far n amount b)
