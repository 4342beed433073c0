-- Value files: up to 64 lines `KIND NAME BITS VALUE`. KIND is `int` or `bit`. BITS is 1 to 64 for an int and 1 for a bit,
-- and VALUE is below 2 ^ BITS. No name stands twice.
use Rattle.std.specs.Prelude.{ℕ, ◌+◌, ◌^◌, ◌<◌, ◌≤◌, ◌≡◌, ◌==◌, nat_le, nat_lt, ◌&&◌, List, [], ◌∷◌, ◌++◌, length, codes, decimal, Bool, IsTrue, false, if◌then◌else◌, Option, Some, None, Result, Ok, Err}
use Rattle.std.specs.List.{flat_map, list_any, AllByRecursion}
use Rattle.std.specs.Str.{bytes_eq}
use Rattle.rx_text.specs.Lines.{parts_of, words_of, line_of}
use Rattle.rx_text.specs.Names.{is_name}
use Rattle.rx_text.specs.Faults.{fault_at}
use Rattle.rx_text.specs.Numerals.{numeral_of}
use Rattle.rx_text.specs.declared.fault.LineCause.{LineCause}
use Rattle.rx_text.specs.declared.fault.LineCause.TheVariants.{Form, Number, Again, Limit}
use Rattle.rx_text.specs.declared.fault.LineFault.{LineFault}
use Rattle.rx_params.specs.declared.kind.Kind.{Kind}
use Rattle.rx_params.specs.declared.kind.Kind.TheVariants.{Int, Bit}
use Rattle.rx_circuit.specs.declared.values.ValueLine.{ValueLine}

abbrev pub kind_word : Kind → List ℕ
kind_word Int = codes "int"
kind_word Bit = codes "bit"

-- the one spelling of a line
abbrev pub value_line : ValueLine → List ℕ
value_line v = line_of (kind_word v.kind ∷ v.name ∷ decimal v.bits ∷ decimal v.value ∷ [])

-- the one text of some lines
abbrev pub values_text : List ValueLine → List ℕ
values_text lines = flat_map value_line lines

-- whether a number of this kind may have so many bits
abbrev pub is_width : Kind → ℕ → Bool
is_width Int bits = nat_le 1 bits && nat_le bits 64
is_width Bit bits = bits == 1

-- whether one of these lines has the name
abbrev pub has_name : List ℕ → List ValueLine → Bool
has_name name lines = list_any (λ v. bytes_eq v.name name) lines

-- a line is within its ranges
pub record IsValueLine (v : ValueLine) : Type 0 where
  pub name : IsTrue (is_name v.name)
  pub width : IsTrue (is_width v.kind v.bits)
  pub value : v.value < 2 ^ v.bits

-- no name stands twice
abbrev pub NamesOnce : List ValueLine → Type 0
NamesOnce [] = Unit {0}
NamesOnce (v ∷ lines) = (has_name v.name lines ≡ false) × NamesOnce lines

-- the most lines of a value file
abbrev pub most_lines : ℕ
most_lines = 64

-- the lines of a value file
pub record AreValues (lines : List ValueLine) : Type 0 where
  pub each : AllByRecursion IsValueLine lines
  pub once : NamesOnce lines
  pub count : length lines ≤ most_lines

-- the bytes are the value file of these lines
pub record ValuesText (bytes : List ℕ) (lines : List ValueLine) : Type 0 where
  pub fits : AreValues lines
  pub spelled : bytes ≡ values_text lines

-- ---- reading, with the first line that is wrong
abbrev pub kind_of : List ℕ → Option Kind
kind_of word = if bytes_eq word (codes "int") then Some Int else if bytes_eq word (codes "bit") then Some Bit else None

-- the parts of a line: none where the line has no spelling
abbrev pub line_parts : Option Kind → List ℕ → Option ℕ → Option ℕ → Option ValueLine
line_parts (Some kind) name (Some bits) (Some value) =
    if is_name name then Some (record { kind = kind; name = name; bits = bits; value = value }) else None
line_parts _ name _ _ = None

abbrev pub spelled_line : List (List ℕ) → Option ValueLine
spelled_line (kind ∷ name ∷ bits ∷ value ∷ []) = line_parts (kind_of kind) name (numeral_of bits) (numeral_of value)
spelled_line _ = None

-- The causes of a line, after the lines before it: it has no spelling; a numeral is outside its range; the name stands in an
-- earlier line; there are `most_lines` lines before it.
abbrev pub line_after : List ValueLine → Option ValueLine → Result ValueLine LineCause
line_after before None = Err Form
line_after before (Some v) =
    if is_width v.kind v.bits && nat_lt v.value (2 ^ v.bits) then
    if has_name v.name before then Err Again
    else if nat_lt (length before) most_lines then Ok v else Err Limit
    else Err Number

-- the lines so far and those that stand between the line feeds, or the first fault
abbrev pub lines_from : List ValueLine → List (List ℕ) → Result (List ValueLine) LineFault
lines_from before [] = Ok before
lines_from before ([] ∷ []) = Ok before
lines_from before ((byte ∷ bytes) ∷ []) = Err (fault_at (length before + 1) Form)
lines_from before (part ∷ next ∷ parts) =
    elim (line_after before (spelled_line (words_of part))) [
      | Ok v ↦ lines_from (before ++ v ∷ []) (next ∷ parts)
      | Err cause ↦ Err (fault_at (length before + 1) cause)
    ]

-- the lines that a value file spells, or the first line that is wrong
unfoldable pub values_from : List ℕ → Result (List ValueLine) LineFault
values_from bytes = lines_from [] (parts_of bytes)
