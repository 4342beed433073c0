-- What names a number in a file, and its form. A name is its length, 1 to 32, and its bytes. A form is the kind, 0 for an int and
-- 1 for a bit, and the bits.
use Rattle.std.specs.Prelude.{ℕ, nat_le, not, ◌==◌, ◌&&◌, ◌++◌, List, [], ◌∷◌, length, Bool, if◌then◌else◌, Option, Some, None, Result, Ok, Err}
use Rattle.std.specs.Int.{w8}
use Rattle.rx_text.specs.Names.{is_name}
use Rattle.rx_params.specs.declared.kind.Kind.{Kind}
use Rattle.rx_params.specs.declared.kind.Kind.TheVariants.{Int, Bit}
use Rattle.rx_params.specs.Kinds.{is_form}
use Rattle.rx_codec.specs.declared.fault.CodecFault.{CodecFault}
use Rattle.rx_codec.specs.declared.fault.CodecFault.TheVariants.{Field}
use Rattle.rx_codec.specs.Reading.{◌>>=◌, bytes_at, number_at, in_range}

-- ---- the one spelling
abbrev pub kind_code : Kind → ℕ
kind_code Int = 0
kind_code Bit = 1

abbrev pub named_bytes : List ℕ → Kind → ℕ → List ℕ
named_bytes name kind bits = length name ∷ name ++ kind_code kind ∷ bits ∷ []

-- ---- reading, with the first fault

-- the length of a name
unfoldable pub name_size_at : List ℕ → ℕ → Result (ℕ × ℕ) CodecFault
name_size_at file at = do
  size ← number_at w8 file at
  in_range (nat_le 1 size.0 && nat_le size.0 32) at size

-- a name that is not taken
unfoldable pub name_at : (List ℕ → Bool) → List ℕ → ℕ → Result (List ℕ × ℕ) CodecFault
name_at is_taken file at = do
  size ← name_size_at file at
  name ← bytes_at file size.0 size.1
  in_range (is_name name.0 && not (is_taken name.0)) size.1 name

abbrev pub kind_of_code : ℕ → Option Kind
kind_of_code code = if code == 0 then Some Int else if code == 1 then Some Bit else None

abbrev pub known_kind : Option Kind → ℕ → ℕ → Result (Kind × ℕ) CodecFault
known_kind None at after = Err (Field at)
known_kind (Some kind) at after = Ok (kind, after)

unfoldable pub form_at : ℕ → List ℕ → ℕ → Result ((Kind × ℕ) × ℕ) CodecFault
form_at message_bits file at = do
  code ← number_at w8 file at
  kind ← known_kind (kind_of_code code.0) at code.1
  bits ← number_at w8 file kind.1
  bits ← in_range (is_form message_bits kind.0 bits.0) kind.1 bits
  Ok ((kind.0, bits.0), bits.1)
