-- The kinds of names: whole numbers and numbers with a sign, each of its width, and bits.
use Rattle.std.specs.Prelude.{ℕ, Bool, true, false, ◌==◌, ◌&&◌, List, [], ◌∷◌, Option, Some, None, if◌then◌else◌}
use Rattle.rx_language.specs.declared.kind.NameKind.{NameKind}
use Rattle.rx_language.specs.declared.kind.NameKind.TheVariants.{Int, Sint, Bit}
use Rattle.rx_language.specs.declared.form.Rule.{Rule}
use Rattle.rx_language.specs.declared.form.Rule.TheVariants.{GivesInt, GivesSint, GivesBit, OneNumber, TwoNumbers, TwoInts, OneOfAny, TwoAlike, NumberAndAmount, Compared, Chosen, CastInt, CastSint}

-- how many bits a value of the kind has: it is below two to them
abbrev pub bits_of : NameKind → ℕ
bits_of (Int width) = width
bits_of (Sint width) = width
bits_of Bit = 1

-- an Int or a Sint
abbrev pub is_number : NameKind → Bool
is_number (Int width) = true
is_number (Sint width) = true
is_number Bit = false

abbrev pub same_kind : NameKind → NameKind → Bool
same_kind (Int a) (Int b) = a == b
same_kind (Sint a) (Sint b) = a == b
same_kind Bit Bit = true
same_kind _ _ = false

-- two numbers of one kind
abbrev pub are_numbers : NameKind → NameKind → Bool
are_numbers a b = is_number a && same_kind a b

-- two numbers of one kind without a sign
abbrev pub are_ints : NameKind → NameKind → Bool
are_ints (Int a) (Int b) = a == b
are_ints _ _ = false

-- The kind that a line gives its name, by its rule, its width and the kinds of its arguments; none where it takes no such arguments.
abbrev pub kind_by : Rule → ℕ → List NameKind → Option NameKind
kind_by GivesInt width [] = Some (Int width)
kind_by GivesSint width [] = Some (Sint width)
kind_by GivesBit width [] = Some Bit
kind_by OneNumber width (a ∷ []) = if is_number a then Some a else None
kind_by TwoNumbers width (a ∷ b ∷ []) = if are_numbers a b then Some a else None
kind_by TwoInts width (a ∷ b ∷ []) = if are_ints a b then Some a else None
kind_by OneOfAny width (a ∷ []) = Some a
kind_by TwoAlike width (a ∷ b ∷ []) = if same_kind a b then Some a else None
kind_by NumberAndAmount width (a ∷ b ∷ []) = if is_number a && same_kind b (Int (bits_of a)) then Some a else None
kind_by Compared width (a ∷ b ∷ []) = if are_numbers a b then Some Bit else None
kind_by Chosen width (c ∷ a ∷ b ∷ []) = if same_kind c Bit && are_numbers a b then Some a else None
kind_by CastInt width (a ∷ []) = Some (Int width)
kind_by CastSint width (a ∷ []) = Some (Sint width)
kind_by _ width _ = None
