-- The table of values: what each word gives of its arguments, in whole numbers.
use Rattle.std.specs.Prelude.{ℕ, ◌<◌, ◌≤◌, ◌-◌, ◌*◌, ◌^◌, ◌==◌, not, bit_and, bit_or, bit_xor, Bool, true, false, ℤ, pos, ◌+ℤ◌, ◌-ℤ◌, ◌*ℤ◌, neg_ℤ, int_lt, int_le, if◌then◌else◌}
use Rattle.std.specs.Int.{int_div_euclid, int_min, int_max}
use Rattle.std.specs.Ordering.{int_eq}
use Rattle.rx_residue.specs.Residues.{signed}
use Rattle.rx_residue.specs.Division.{quotient, remainder}
use Rattle.rx_language.specs.declared.word.Word.{Word}
use Rattle.rx_language.specs.declared.word.Word.TheVariants.{In, Inw, Ins, Inbit, Const, Constw, Add, Sub, Mul, Div, Rem, Neg, And, Or, Xor, Not, Shl, Shr, Shlv, Shrv, Eq, Ne, Lt, Le, Gt, Ge, Select, Min, Max, Cast, Casts, Out}
use Rattle.rx_language.specs.declared.kind.NameKind.{NameKind}
use Rattle.rx_language.specs.declared.kind.NameKind.TheVariants.{Int, Sint, Bit}
use Rattle.rx_language.specs.Kinds.{bits_of}
use Rattle.rx_meaning.specs.declared.operand.Operand.{Operand}

-- the number that a value of a kind stands for
abbrev pub number_by : NameKind → ℕ → ℤ
number_by (Int width) x = pos x
number_by (Sint width) x = signed width x
number_by Bit x = pos x

abbrev pub number_of : Operand → ℤ
number_of a = number_by a.kind a.value

-- a kind has 1 to 64 bits
pub record HasBits (kind : NameKind) : Type 0 where
  pub some : 1 ≤ bits_of kind
  pub few : bits_of kind ≤ 64

-- a value is below two to the bits of its kind
pub record IsHeld (a : Operand) : Type 0 where
  pub bits : HasBits a.kind
  pub below : a.value < 2 ^ bits_of a.kind

abbrev pub truth : Bool → ℤ
truth true = pos 1
truth false = pos 0

-- What a line gives: its value is this number modulo two to the bits of its kind. `given` is the numeral of the line, or what is put
-- into an input; a, b and c are its arguments.
unfoldable pub given_by : Word → ℕ → Operand → Operand → Operand → ℤ
given_by In given a b c = pos given
given_by Inw given a b c = pos given
given_by Ins given a b c = pos given
given_by Inbit given a b c = pos given
given_by Const given a b c = pos given
given_by Constw given a b c = pos given
given_by Add given a b c = pos a.value +ℤ pos b.value
given_by Sub given a b c = pos a.value -ℤ pos b.value
given_by Mul given a b c = pos a.value *ℤ pos b.value
given_by Div given a b c = pos (quotient (bits_of a.kind) a.value b.value)
given_by Rem given a b c = pos (remainder a.value b.value)
given_by Neg given a b c = neg_ℤ (pos a.value)
given_by And given a b c = pos (bit_and a.value b.value)
given_by Or given a b c = pos (bit_or a.value b.value)
given_by Xor given a b c = pos (bit_xor a.value b.value)
given_by Not given a b c = pos (2 ^ bits_of a.kind - 1 - a.value)
given_by Shl given a b c = pos (a.value * 2 ^ given)
given_by Shr given a b c = int_div_euclid (number_of a) (pos (2 ^ given))
given_by Shlv given a b c = pos (a.value * 2 ^ b.value)
given_by Shrv given a b c = int_div_euclid (number_of a) (pos (2 ^ b.value))
given_by Eq given a b c = truth (int_eq (number_of a) (number_of b))
given_by Ne given a b c = truth (not (int_eq (number_of a) (number_of b)))
given_by Lt given a b c = truth (int_lt (number_of a) (number_of b))
given_by Le given a b c = truth (int_le (number_of a) (number_of b))
given_by Gt given a b c = truth (int_lt (number_of b) (number_of a))
given_by Ge given a b c = truth (int_le (number_of b) (number_of a))
given_by Select given a b c = pos (if a.value == 1 then b.value else c.value)
given_by Min given a b c = int_min (number_of a) (number_of b)
given_by Max given a b c = int_max (number_of a) (number_of b)
given_by Cast given a b c = number_of a
given_by Casts given a b c = number_of a
given_by Out given a b c = pos a.value
