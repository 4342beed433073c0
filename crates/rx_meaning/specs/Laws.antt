-- Laws of the values, as a contract can name them.
use Rattle.std.specs.Prelude.{ℕ, ◌-◌, ◌^◌, ◌<◌, ◌≡◌, ℤ, pos, ◌+ℤ◌, ◌-ℤ◌, ◌*ℤ◌, ◌≤ℤ◌, ◌<ℤ◌, neg_ℤ}
use Rattle.rx_residue.specs.Residues.{residue}
use Rattle.rx_language.specs.declared.word.Word.TheVariants.{Add, Sub, Mul, Neg, Shl}
use Rattle.rx_language.specs.declared.kind.NameKind.{NameKind}
use Rattle.rx_language.specs.declared.kind.NameKind.TheVariants.{Int, Sint, Bit}
use Rattle.rx_language.specs.Kinds.{bits_of}
use Rattle.rx_meaning.specs.declared.operand.Operand.{Operand}
use Rattle.rx_meaning.specs.Operations.{HasBits, number_by, number_of, given_by}

-- what a kind can hold
abbrev pub InRange : NameKind → ℤ → Type 0
InRange (Int width) z = (pos 0 ≤ℤ z) × (z <ℤ pos (2 ^ width))
InRange (Sint width) z = (neg_ℤ (pos (2 ^ (width - 1))) ≤ℤ z) × (z <ℤ pos (2 ^ (width - 1)))
InRange Bit z = (pos 0 ≤ℤ z) × (z <ℤ pos 2)

-- A value stands for a number that its kind can hold, and such a number is that of its residue: so an operation whose result the
-- kind can hold is exact.
pub record NumberLaws : Type 0 where
  pub held : (kind : NameKind) (x : ℕ) → HasBits kind → x < 2 ^ bits_of kind → InRange kind (number_by kind x)
  pub exact : (kind : NameKind) (z : ℤ) → HasBits kind → InRange kind z → number_by kind (residue (bits_of kind) z) ≡ z

-- Sums, differences, opposites, products and shifts to the left, which the table gives over residues, are those of the numbers that
-- the arguments stand for, where these have one width.
pub record SignLaws : Type 0 where
  pub sums : (a b c : Operand) (given : ℕ) → bits_of b.kind ≡ bits_of a.kind →
      residue (bits_of a.kind) (given_by Add given a b c) ≡ residue (bits_of a.kind) (number_of a +ℤ number_of b)
  pub differences : (a b c : Operand) (given : ℕ) → bits_of b.kind ≡ bits_of a.kind →
      residue (bits_of a.kind) (given_by Sub given a b c) ≡ residue (bits_of a.kind) (number_of a -ℤ number_of b)
  pub products : (a b c : Operand) (given : ℕ) → bits_of b.kind ≡ bits_of a.kind →
      residue (bits_of a.kind) (given_by Mul given a b c) ≡ residue (bits_of a.kind) (number_of a *ℤ number_of b)
  pub opposites : (a b c : Operand) (given : ℕ) → residue (bits_of a.kind) (given_by Neg given a b c) ≡ residue (bits_of a.kind) (neg_ℤ (number_of a))
  pub shifts : (a b c : Operand) (given : ℕ) → residue (bits_of a.kind) (given_by Shl given a b c) ≡ residue (bits_of a.kind) (number_of a *ℤ pos (2 ^ given))
