-- Laws of the definitions, as a contract can name them.
use Rattle.std.specs.Prelude.{ℕ, ◌+◌, ◌-◌, ◌*◌, ◌^◌, ◌<◌, ◌≤◌, ◌≡◌, ℤ, pos, ◌+ℤ◌, ◌*ℤ◌, ◌≤ℤ◌, ◌<ℤ◌, neg_ℤ}
use Rattle.rx_residue.specs.Residues.{residue, signed}
use Rattle.rx_residue.specs.Division.{quotient, remainder}

-- a residue is below two to the width, is the number itself where that is so already, and stays the same for whole turns
pub record ResidueLaws : Type 0 where
  pub below : (width : ℕ) (z : ℤ) → residue width z < 2 ^ width
  pub same : (width n : ℕ) → n < 2 ^ width → residue width (pos n) ≡ n
  pub turned : (width : ℕ) (z turns : ℤ) → residue width (z +ℤ turns *ℤ pos (2 ^ width)) ≡ residue width z

-- the signed number of a residue has this residue, and lies from minus half of 2 ^ width to below half; it is the only such number
pub record SignedLaws : Type 0 where
  pub residue_is : (width x : ℕ) → 1 ≤ width → x < 2 ^ width → residue width (signed width x) ≡ x
  pub low : (width x : ℕ) → 1 ≤ width → x < 2 ^ width → neg_ℤ (pos (2 ^ (width - 1))) ≤ℤ signed width x
  pub high : (width x : ℕ) → 1 ≤ width → x < 2 ^ width → signed width x <ℤ pos (2 ^ (width - 1))
  pub signed_is : (width : ℕ) (z : ℤ) → 1 ≤ width → neg_ℤ (pos (2 ^ (width - 1))) ≤ℤ z → z <ℤ pos (2 ^ (width - 1)) → signed width (residue width z) ≡ z

-- A number is the quotient times the divisor, and the remainder, which is below the divisor; a divisor of 0 leaves the number.
pub record DivisionLaws : Type 0 where
  pub whole : (width a b : ℕ) → 0 < b → a ≡ quotient width a b * b + remainder a b
  pub below : (a b : ℕ) → 0 < b → remainder a b < b
  pub no_quotient : (width a : ℕ) → quotient width a 0 ≡ 2 ^ width - 1
  pub no_remainder : (a : ℕ) → remainder a 0 ≡ a
