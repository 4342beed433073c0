-- The inputs of a circuit from a value file. For each input in order there is a line of its name, whose kind is int for a number
-- and bit for a bit, and whose bits are the input's own. Other lines are passed over.
use Rattle.std.specs.Prelude.{ℕ, ◌≡◌, ◌==◌, ◌&&◌, Bool, true, false, List, [], ◌∷◌, ◌++◌, find, Option, Some, None, if◌then◌else◌, Result, Ok, Err}
use Rattle.std.specs.Str.{bytes_eq}
use Rattle.std.specs.Global.{Vec}
use Rattle.rx_params.specs.declared.kind.Kind.{Kind}
use Rattle.rx_params.specs.declared.kind.Kind.TheVariants.{Int as FileInt, Bit as FileBit}
use Rattle.rx_language.specs.declared.kind.NameKind.{NameKind}
use Rattle.rx_language.specs.declared.kind.NameKind.TheVariants.{Int, Sint, Bit}
use Rattle.rx_language.specs.declared.line.Line.{Line}
use Rattle.rx_language.specs.Words.{is_input}
use Rattle.rx_language.specs.Kinds.{bits_of}
use Rattle.rx_language.specs.Programs.{Port}
use Rattle.rx_circuit.specs.declared.values.ValueLine.{ValueLine}
use Rattle.rx_circuit.specs.declared.inputs.InputError.{InputError}
use Rattle.rx_circuit.specs.declared.inputs.InputError.TheVariants.{Missing, Form, Memory}

-- the line of a name
abbrev pub line_named : List ℕ → List ValueLine → Option ValueLine
line_named name values = find (λ v. bytes_eq v.name name) values

abbrev pub is_int : Kind → Bool
is_int FileInt = true
is_int FileBit = false

abbrev pub is_bit : Kind → Bool
is_bit FileInt = false
is_bit FileBit = true

-- whether a file's kind is that of a circuit's: files know no sign
abbrev pub is_file_kind : NameKind → Kind → Bool
is_file_kind (Int width) kind = is_int kind
is_file_kind (Sint width) kind = is_int kind
is_file_kind Bit kind = is_bit kind

-- whether a line holds a number of the kind
abbrev pub fits : NameKind → ValueLine → Bool
fits kind v = is_file_kind kind v.kind && (v.bits == bits_of kind)

-- the number of an input of a name and a kind, from the line of its name, or what is wrong
abbrev pub input_from : List ℕ → NameKind → Option ValueLine → Result ℕ InputError
input_from name kind None = Err (Missing name)
input_from name kind (Some v) = if fits kind v then Ok v.value else Err (Form name)

-- the numbers so far, and those of these inputs, or the first that is wrong
abbrev pub found_after : List ℕ → List Port → List ValueLine → Result (List ℕ) InputError
found_after before [] values = Ok before
found_after before (port ∷ ports) values =
    elim (input_from port.name port.kind (line_named port.name values)) [
      | Ok number ↦ found_after (before ++ number ∷ []) ports values
      | Err error ↦ Err error
    ]

-- the numbers of these inputs, in their order, or the first input that is wrong
abbrev pub found_inputs : List Port → List ValueLine → Result (List ℕ) InputError
found_inputs ports values = found_after [] ports values

-- ---- what the code answers

-- want of memory is no fault of the files
abbrev pub FindsNot : {X : Type 0} → InputError → Result X InputError → Type 0
FindsNot Memory found = Unit {0}
FindsNot (Missing name) found = found ≡ Err (Missing name)
FindsNot (Form name) found = found ≡ Err (Form name)

abbrev pub Finds : {A B : Type 0} → (A → B) → Result A InputError → Result B InputError → Type 0
Finds view (Ok value) found = found ≡ Ok (view value)
Finds view (Err error) found = FindsNot error found

abbrev pub FindsItems : Result (Vec ℕ) InputError → Result (List ℕ) InputError → Type 0
FindsItems (Ok numbers) found = found ≡ Ok numbers.items
FindsItems (Err error) found = FindsNot error found

-- the number of a line of this kind where it is an input
abbrev pub one_number : Result ℕ InputError → Result (List ℕ) InputError
one_number (Ok number) = Ok (number ∷ [])
one_number (Err error) = Err error

abbrev pub input_line : Line → NameKind → List ValueLine → Result (List ℕ) InputError
input_line line kind values =
    if is_input line.word then one_number (input_from line.name kind (line_named line.name values)) else Ok []

abbrev pub added : List ℕ → Result (List ℕ) InputError → Result (List ℕ) InputError
added before (Ok numbers) = Ok (before ++ numbers)
added before (Err error) = Err error
