-- Numerals: `0`, or decimal digits that do not begin with `0`.
use Rattle.std.specs.Prelude.{ℕ, ◌^◌, List, [], ◌∷◌, ◌==◌, nat_lt, ◌&&◌, ◌||◌, not, Bool, true, false, Option, Some, None, if◌then◌else◌, Result, Ok, Err}
use Rattle.std.specs.Str.{all_ascii_digits}
use Rattle.std.specs.Str.Parse.{digits_value}
use Rattle.rx_text.specs.declared.numeral.Numeral.{Numeral}
use Rattle.rx_text.specs.declared.numeral.Numeral.TheVariants.{Word, Beyond}
use Rattle.rx_text.specs.declared.fault.LineCause.{LineCause}
use Rattle.rx_text.specs.declared.fault.LineCause.TheVariants.{Form, Number}

abbrev pub is_empty : List ℕ → Bool
is_empty [] = true
is_empty (first ∷ others) = false

abbrev pub is_numeral : List ℕ → Bool
is_numeral [] = false
is_numeral (first ∷ others) = all_ascii_digits (first ∷ others) && (not (first == 48) || is_empty others)

-- the number that a text is a numeral of, none where it is no numeral
abbrev pub numeral_of : List ℕ → Option ℕ
numeral_of text = if is_numeral text then Some (digits_value 10 text) else None

-- A numeral where a number below an end is wanted: no numeral is a fault of form, and one that is too large a fault of number.
abbrev pub numeral_cases : ℕ → Option ℕ → Result ℕ LineCause
numeral_cases end None = Err Form
numeral_cases end (Some n) = if nat_lt n end then Ok n else Err Number

abbrev pub numeral_below : ℕ → List ℕ → Result ℕ LineCause
numeral_below end text = numeral_cases end (numeral_of text)

-- a number as 64 bits hold it: one of 2 ^ 64 or more is only known to be so
abbrev pub held : ℕ → Numeral
held n = if nat_lt n (2 ^ 64) then Word n else Beyond
