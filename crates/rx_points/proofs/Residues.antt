-- The laws of numbers modulo 2 ^ 69.
use Rattle.std.proofs.Common.{◌≡◌, ℕ, suc, ℤ, pos, negsuc, refl, of_z, FitsSigned, ◌+ℤ◌, ◌*ℤ◌, ◌-ℤ◌, ◌+◌, ◌-◌, ◌<◌, ◌≤◌, sym, ◌∙◌, ap, arith, ◌*◌, ◌/◌, ◌%◌, ◌^◌}
use Rattle.std.proofs.lemmas.Int.{ints}
use Rattle.std.specs.Int.{w128}
use Rattle.rx_points.specs.Residues.{residue}
use Rattle.rx_laws.proofs.Ring.{mul_add, mul_assoc_ℤ, mul_comm_ℤ}
use lib.IntN.{neg_ℤ}

pub residue-lt : (z : ℤ) → residue z < 2 ^ 69
unfolding residue
residue-lt (pos n) = omega arith
residue-lt (negsuc n) = omega arith

-- a number is its residue and a multiple of 2 ^ 69
split : (z : ℤ) → (k : ℤ) × (z ≡ pos (residue z) +ℤ pos (2 ^ 69) *ℤ k)
unfolding residue
split (pos n) = (pos (n / 2 ^ 69), omega (arith, ints))
split (negsuc n) = (negsuc (n / 2 ^ 69), omega (arith, ints))

pub above : ℤ → ℤ
above z = (split z).0

pub residue_split : (z : ℤ) → z ≡ pos (residue z) +ℤ pos (2 ^ 69) *ℤ above z
unfolding above
residue_split z = (split z).1

residues_apart : (v w : ℕ) (k : ℤ) → v < 2 ^ 69 → w < 2 ^ 69 → pos v ≡ pos w +ℤ pos (2 ^ 69) *ℤ k → v ≡ w
residues_apart v w k p q e = omega (arith, ints)

-- what is the same up to a multiple of 2 ^ 69 has one residue, and the other way round
pub residue_same : (a b k : ℤ) → a ≡ b +ℤ pos (2 ^ 69) *ℤ k → residue a ≡ residue b
residue_same a b k e =
    let f = residue_split a in
    let g = residue_split b in
    residues_apart (residue a) (residue b) (k +ℤ above b -ℤ above a) (residue-lt a) (residue-lt b) (omega (arith, ints))

pub gap : ℤ → ℤ → ℤ
gap a b = above a -ℤ above b

pub gap_is : (a b : ℤ) → residue a ≡ residue b → a ≡ b +ℤ pos (2 ^ 69) *ℤ gap a b
unfolding gap
gap_is a b e =
    let f = residue_split a in
    let g = residue_split b in
    omega (arith, ints)

pub residue-add : (a b c d : ℤ) → residue a ≡ residue b → residue c ≡ residue d → residue (a +ℤ c) ≡ residue (b +ℤ d)
residue-add a b c d e f =
    let p = gap_is a b e in
    let q = gap_is c d f in
    residue_same (a +ℤ c) (b +ℤ d) (gap a b +ℤ gap c d) (omega (arith, ints))

pub residue-sub : (a b c d : ℤ) → residue a ≡ residue b → residue c ≡ residue d → residue (a -ℤ c) ≡ residue (b -ℤ d)
residue-sub a b c d e f =
    let p = gap_is a b e in
    let q = gap_is c d f in
    residue_same (a -ℤ c) (b -ℤ d) (gap a b -ℤ gap c d) (omega (arith, ints))

pub residue-neg : (a b : ℤ) → residue a ≡ residue b → residue (neg_ℤ a) ≡ residue (neg_ℤ b)
residue-neg a b e =
    let p = gap_is a b e in
    residue_same (neg_ℤ a) (neg_ℤ b) (neg_ℤ (gap a b)) (omega (arith, ints))

pub residue-mul : (c a b : ℤ) → residue a ≡ residue b → residue (c *ℤ a) ≡ residue (c *ℤ b)
residue-mul c a b e =
    residue_same (c *ℤ a) (c *ℤ b) (c *ℤ gap a b)
    (ap (λ x. c *ℤ x) (gap_is a b e) ∙ mul_add c b (pos (2 ^ 69) *ℤ gap a b)
    ∙ ap (λ x. c *ℤ b +ℤ x) (sym (mul_assoc_ℤ c (pos (2 ^ 69)) (gap a b)) ∙ ap (λ x. x *ℤ gap a b) (mul_comm_ℤ c (pos (2 ^ 69))) ∙ mul_assoc_ℤ (pos (2 ^ 69)) c (gap a b)))

-- what the code's operations on 128 bits give
pub residue-wrapping : (n : ℕ) (z : ℤ) → residue (pos n) ≡ residue z → residue (pos (n % 2 ^ 128)) ≡ residue z
residue-wrapping n z e = residue_same (pos (n % 2 ^ 128)) (pos n) (neg_ℤ (pos (n / 2 ^ 128 * 2 ^ 59))) (omega (arith, ints)) ∙ e

pub residue-wrapping_add : (m n : ℕ) → residue (pos ((m + n) % 2 ^ 128)) ≡ residue (pos m +ℤ pos n)
residue-wrapping_add m n = residue-wrapping (m + n) (pos m +ℤ pos n) (ap residue (omega (arith, ints)))

pub residue-wrapping_sub : (m n : ℕ) → n ≤ 2 ^ 128 → residue (pos ((m + (2 ^ 128 - n)) % 2 ^ 128)) ≡ residue (pos m -ℤ pos n)
residue-wrapping_sub m n p =
    residue-wrapping (m + (2 ^ 128 - n)) (pos m -ℤ pos n) (residue_same (pos (m + (2 ^ 128 - n))) (pos m -ℤ pos n) (pos (2 ^ 59)) (omega (arith, ints)))

pub residue_cast : (z : ℤ) → FitsSigned w128 z → residue (pos (of_z w128 z)) ≡ residue z
residue_cast (pos n) f = refl
residue_cast (negsuc n) f = residue_same (pos (2 ^ 128 - suc n)) (negsuc n) (pos (2 ^ 59)) (omega (arith, ints, f.sfits))
