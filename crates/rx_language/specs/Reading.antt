-- Reading a circuit, with the first line that is wrong. The causes of a line are tried in this order: it has no spelling; a
-- numeral is outside its range; what it asks for is not defined by an earlier line, or is of another kind; its name is taken;
-- it is one too many.
use Rattle.std.specs.Prelude.{ℕ, zero, suc, ◌+◌, nat_lt, not, Bool, true, false, List, [], ◌∷◌, ◌++◌, length, codes, Option, Some, None, is_some, option_map, if◌then◌else◌, Result, Ok, Err}
use Rattle.std.specs.List.{list_all}
use Rattle.std.specs.Str.{bytes_eq}
use Rattle.rx_text.specs.Lines.{parts_of, words_of}
use Rattle.rx_text.specs.Names.{name_of}
use Rattle.rx_text.specs.Numerals.{numeral_of, held}
use Rattle.rx_text.specs.Faults.{fault_at}
use Rattle.rx_text.specs.declared.numeral.Numeral.{Numeral}
use Rattle.rx_text.specs.declared.numeral.Numeral.TheVariants.{Word as Held, Beyond}
use Rattle.rx_text.specs.declared.fault.LineCause.{LineCause}
use Rattle.rx_text.specs.declared.fault.LineCause.TheVariants.{Form, Number, Unknown, Kind, Again, Limit}
use Rattle.rx_text.specs.declared.fault.LineFault.{LineFault}
use Rattle.rx_params.specs.Kinds.{is_form}
use Rattle.rx_params.specs.declared.kind.Kind.TheVariants.{Int as WholeNumber}
use Rattle.rx_language.specs.declared.word.Word.{Word}
use Rattle.rx_language.specs.declared.form.Tail.{Tail}
use Rattle.rx_language.specs.declared.form.Tail.TheVariants.{Nothing, Constant, Amount}
use Rattle.rx_language.specs.declared.line.Line.{Line}
use Rattle.rx_language.specs.declared.line.Step.{Step}
use Rattle.rx_language.specs.declared.spelled.Spelled.{Spelled}
use Rattle.rx_language.specs.Words.{word_of, form}
use Rattle.rx_language.specs.Programs.{Program, program_of_fields, is_space, is_stated, tail_end, width_or, asked, is_defined, kind_after, step_after, steps_by, is_taken, has_room}

-- one reading after another
infixl 10 ◌>>=◌
abbrev pub ◌>>=◌ : {A B : Type 0} → Result A LineCause → (A → Result B LineCause) → Result B LineCause
(Ok x) >>= f = f x
(Err cause) >>= f = Err cause

-- what a word has to be, else the cause is `Form`
abbrev pub formed : {A : Type 0} → Option A → Result A LineCause
formed (Some x) = Ok x
formed None = Err Form

-- what has to hold, else the cause
abbrev pub tested : {A : Type 0} → Bool → LineCause → Result A LineCause → Result A LineCause
tested holds cause next = if holds then next else Err cause

-- ---- the words of a line, one after the other: what was read, and the words that are left
abbrev pub word_from : List (List ℕ) → Result (List ℕ × List (List ℕ)) LineCause
word_from [] = Err Form
word_from (word ∷ words) = Ok (word, words)

unfoldable pub first_from : List (List ℕ) → Result (Word × List (List ℕ)) LineCause
first_from words = do
  text ← word_from words
  word ← formed (word_of text.0)
  Ok (word, text.1)

unfoldable pub name_from : List (List ℕ) → Result (List ℕ × List (List ℕ)) LineCause
name_from words = do
  text ← word_from words
  name ← formed (name_of text.0)
  Ok (name, text.1)

unfoldable pub numeral_from : List (List ℕ) → Result (Numeral × List (List ℕ)) LineCause
numeral_from words = do
  text ← word_from words
  number ← formed (option_map held (numeral_of text.0))
  Ok (number, text.1)

-- so many names, after those before
abbrev pub names_from : ℕ → List (List ℕ) → List (List ℕ) → Result (List (List ℕ) × List (List ℕ)) LineCause
names_from zero before words = Ok (before, words)
names_from (suc count) before words = name_from words >>= λ name. names_from count (before ++ name.0 ∷ []) name.1

-- a width where one is stated, else 0
abbrev pub width_from : Bool → List (List ℕ) → Result (Numeral × List (List ℕ)) LineCause
width_from true words = numeral_from words
width_from false words = Ok (Held 0, words)

-- a numeral where there is one, else 0
abbrev pub tail_from : Tail → List (List ℕ) → Result (Numeral × List (List ℕ)) LineCause
tail_from Nothing words = Ok (Held 0, words)
tail_from Constant words = numeral_from words
tail_from Amount words = numeral_from words

-- no word is left
abbrev pub ends_with : {A : Type 0} → List (List ℕ) → A → Result A LineCause
ends_with [] value = Ok value
ends_with (word ∷ words) value = Err Form

-- the parts of a line
unfoldable pub spelled_from : List (List ℕ) → Result Spelled LineCause
spelled_from words = do
  word ← first_from words
  name ← name_from word.1
  width ← width_from (form word.0).stated name.1
  args ← names_from (form word.0).args [] width.1
  number ← tail_from (form word.0).tail args.1
  ends_with number.1 (record { word = word.0; name = name.0; width = width.0; args = args.0; number = number.0 })

-- the message bits and the width of line 1
unfoldable pub header_from : List (List ℕ) → Result (Numeral × Numeral) LineCause
header_from words = do
  first ← word_from words
  bits ← tested (bytes_eq first.0 (codes "bits")) Form (Ok first)
  space ← numeral_from bits.1
  width ← numeral_from space.1
  ends_with width.1 (space.0, width.0)

-- ---- numerals in their ranges
abbrev pub number_in : (ℕ → Bool) → Numeral → Result ℕ LineCause
number_in is_fit (Held n) = if is_fit n then Ok n else Err Number
number_in is_fit Beyond = Err Number

unfoldable pub ranged : ℕ → ℕ → Spelled → Result Line LineCause
ranged space width s = do
  stated ← number_in (λ n. is_stated (form s.word).stated space n) s.width
  number ← number_in (λ n. nat_lt n (tail_end (form s.word).tail (width_or (form s.word).stated stated width))) s.number
  Ok (record { word = s.word; name = s.name; args = s.args; number = number; width = stated })

unfoldable pub ranged_header : Numeral × Numeral → Result (ℕ × ℕ) LineCause
ranged_header header = do
  space ← number_in is_space header.0
  width ← number_in (λ n. is_form space WholeNumber n) header.1
  Ok (space, width)

-- what line 1 says
abbrev pub header_by : List (List ℕ) → Result (ℕ × ℕ) LineCause
header_by words = header_from words >>= ranged_header

-- ---- a line after the lines before it

-- what is known of a line by these lines, or why they do not take it
abbrev pub step_from : ℕ → List Line → Line → Result Step LineCause
step_from width before line =
    tested (list_all (is_defined before) (asked line)) Unknown
    (tested (is_some (kind_after width before (steps_by width before) line)) Kind (Ok (step_after width before (steps_by width before) line)))

-- a line whose name is new, and which is not one too many
abbrev pub new_from : List Line → Line → Result Line LineCause
new_from before line = tested (not (is_taken before line)) Again (tested (has_room before line.word) Limit (Ok line))

unfoldable pub line_after : ℕ → ℕ → List Line → List (List ℕ) → Result Line LineCause
line_after space width before words = do
  spelled ← spelled_from words
  line ← ranged space width spelled
  step ← step_from width before line
  new_from before line

-- ---- all lines

-- the lines so far and those that stand between the line feeds, or the first fault
abbrev pub lines_from : ℕ → ℕ → List Line → List (List ℕ) → Result (List Line) LineFault
lines_from space width before [] = Ok before
lines_from space width before ([] ∷ []) = Ok before
lines_from space width before ((byte ∷ bytes) ∷ []) = Err (fault_at (length before + 2) Form)
lines_from space width before (part ∷ next ∷ parts) =
    elim (line_after space width before (words_of part)) [
      | Ok line ↦ lines_from space width (before ++ line ∷ []) (next ∷ parts)
      | Err cause ↦ Err (fault_at (length before + 2) cause)
    ]

-- what line 1 says, or its fault; a text without a line feed has no line 1
abbrev pub header_told : Result (ℕ × ℕ) LineCause → Result (ℕ × ℕ) LineFault
header_told (Ok header) = Ok header
header_told (Err cause) = Err (fault_at 1 cause)

abbrev pub header_of : List (List ℕ) → Result (ℕ × ℕ) LineFault
header_of (part ∷ next ∷ parts) = header_told (header_by (words_of part))
header_of _ = Err (fault_at 1 Form)

abbrev pub after_header : List (List ℕ) → List (List ℕ)
after_header [] = []
after_header (part ∷ parts) = parts

abbrev pub program_by : ℕ → ℕ → Result (List Line) LineFault → Result Program LineFault
program_by space width (Ok lines) = Ok (program_of_fields space width lines)
program_by space width (Err fault) = Err fault

abbrev pub program_from : Result (ℕ × ℕ) LineFault → List (List ℕ) → Result Program LineFault
program_from (Ok header) parts = program_by header.0 header.1 (lines_from header.0 header.1 [] parts)
program_from (Err fault) parts = Err fault

-- the circuit that a text is, or its first wrong line
unfoldable pub circuit_from : List ℕ → Result Program LineFault
circuit_from bytes = program_from (header_of (parts_of bytes)) (after_header (parts_of bytes))

abbrev pub fault_of : {A : Type 0} → Result A LineFault → Option LineFault
fault_of (Ok value) = None
fault_of (Err fault) = Some fault

-- the first wrong line of a text and its cause, none where the text is a circuit
abbrev pub bad_line : List ℕ → Option LineFault
bad_line bytes = fault_of (circuit_from bytes)
