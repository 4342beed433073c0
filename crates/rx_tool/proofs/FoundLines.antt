-- The lines of a circuit's inputs, among value lines of which no two have the name of an input.
use Rattle.std.proofs.Common.{◌≡◌, ◌≤◌, ◌==◌, ℕ, Bool, true, false, cond, List, [], ◌∷◌, ◌++◌, length, map, Option, Some, None, Result, Ok, Err, refl, sym, ap, subst, arith, ◌∙◌, append_assoc}
use Rattle.std.specs.List.{flat_map, filter, list_any, AllByRecursion}
use Rattle.std.specs.Str.{bytes_eq}
use Rattle.std.proofs.lemmas.Bool.{and_parts, or_parts, eqb-true}
use Rattle.std.proofs.lemmas.List.{append-nil, nil_from_length}
use Rattle.std.proofs.lemmas.Slice.Eq.{bytes_eq-Decides}
use Rattle.rx_params.specs.declared.kind.Kind.{Kind}
use Rattle.rx_params.specs.declared.kind.Kind.TheVariants.{Int as WholeNumber, Bit as OneBit}
use Rattle.rx_language.specs.declared.kind.NameKind.{NameKind}
use Rattle.rx_language.specs.declared.kind.NameKind.TheVariants.{Int, Sint, Bit}
use Rattle.rx_language.specs.Kinds.{bits_of}
use Rattle.rx_language.specs.Programs.{Port}
use Rattle.rx_circuit.specs.declared.values.ValueLine.{ValueLine}
use Rattle.rx_circuit.specs.declared.inputs.InputError.{InputError}
use Rattle.rx_circuit.specs.declared.inputs.InputError.TheVariants.{Form}
use Rattle.rx_circuit.specs.Values.{has_name, NamesOnce}
use Rattle.rx_circuit.specs.Inputs.{line_named, is_file_kind, fits, input_from, found_after}
use Rattle.rx_compile.specs.Compiled.{file_kind}
use Rattle.rx_tool.specs.CircuitWay.{InputsOnce}

-- the lines of a name
abbrev pub lines_named : List ℕ → List ValueLine → List ValueLine
lines_named name lines = filter (λ (v : ValueLine). bytes_eq v.name name) lines

-- ---- names that stand once

none_named : (name : List ℕ) (lines : List ValueLine) → has_name name lines ≡ false → lines_named name lines ≡ []
none_named name [] none = refl
none_named name (v ∷ lines) none =
    let parts = or_parts (bytes_eq v.name name) (has_name name lines) none in
    let rest : lines_named name lines ≡ [] = none_named name lines parts.1 in
    ap (λ (b : Bool). cond b (v ∷ lines_named name lines) (lines_named name lines)) parts.0 ∙ rest

-- where no two lines have one name, no more than one line has a name
once_named : (name : List ℕ) (lines : List ValueLine) → NamesOnce lines → length (lines_named name lines) ≤ 1
once_named name [] once = omega arith
once_named name (v ∷ lines) once =
    by_first name v lines (bytes_eq v.name name) refl once (once_named name lines once.1)
  where
    by_first : (name : List ℕ) (v : ValueLine) (lines : List ValueLine) (here : Bool) → bytes_eq v.name name ≡ here →
        NamesOnce (v ∷ lines) → length (lines_named name lines) ≤ 1 →
        length (cond here (v ∷ lines_named name lines) (lines_named name lines)) ≤ 1
    by_first name v lines true here once rest =
        let named : v.name ≡ name = (bytes_eq-Decides v.name name).0 here in
        let none : has_name name lines ≡ false = subst (λ n. has_name n lines ≡ false) named once.0 in
        omega (arith, ap length (none_named name lines none))
    by_first name v lines false here once rest = rest

pub inputs_once : (ports : List Port) (lines : List ValueLine) → NamesOnce lines → InputsOnce ports lines
inputs_once [] lines once = tt
inputs_once (port ∷ ports) lines once = (once_named port.name lines once, inputs_once ports lines once)

-- the line that was found is the only one of its name
pub only_named : (name : List ℕ) (lines : List ValueLine) (v : ValueLine) → length (lines_named name lines) ≤ 1 →
    line_named name lines ≡ Some v → lines_named name lines ≡ v ∷ []
only_named name [] v once found = absurd cc
only_named name (w ∷ lines) v once found =
    by_first name w lines v (bytes_eq w.name name) once found (only_named name lines v)
  where
    by_first : (name : List ℕ) (w : ValueLine) (lines : List ValueLine) (v : ValueLine) (here : Bool) →
        length (cond here (w ∷ lines_named name lines) (lines_named name lines)) ≤ 1 →
        cond here (Some w) (line_named name lines) ≡ Some v →
        (length (lines_named name lines) ≤ 1 → line_named name lines ≡ Some v → lines_named name lines ≡ v ∷ []) →
        cond here (w ∷ lines_named name lines) (lines_named name lines) ≡ v ∷ []
    by_first name w lines v true once found rest =
        let same : w ≡ v = cc in
        ap (λ ws. w ∷ ws) (nil_from_length (lines_named name lines) (omega arith)) ∙ ap (λ (u : ValueLine). u ∷ []) same
    by_first name w lines v false once found rest = rest once found

-- ---- the inputs that were found

-- the line of an input's name, of the kind and the bits of the input, with this number
pub record IsFound (lines : List ValueLine) (port : Port) (number : ℕ) : Type 0 where
  pub line : ValueLine
  pub named : line_named port.name lines ≡ Some line
  pub kind : line.kind ≡ file_kind port.kind
  pub bits : line.bits ≡ bits_of port.kind
  pub value : line.value ≡ number

abbrev pub AreFound : List ValueLine → List Port → List ℕ → Type 0
AreFound lines [] [] = Unit {0}
AreFound lines [] (number ∷ numbers) = ⊥
AreFound lines (port ∷ ports) [] = ⊥
AreFound lines (port ∷ ports) (number ∷ numbers) = IsFound lines port number × AreFound lines ports numbers

kind_is : (kind : NameKind) (given : Kind) → is_file_kind kind given ≡ true → given ≡ file_kind kind
kind_is (Int width) WholeNumber fit = refl
kind_is (Int width) OneBit fit = absurd cc
kind_is (Sint width) WholeNumber fit = refl
kind_is (Sint width) OneBit fit = absurd cc
kind_is Bit WholeNumber fit = absurd cc
kind_is Bit OneBit fit = refl

one_found : (lines : List ValueLine) (port : Port) (number : ℕ) (found : Option ValueLine) → line_named port.name lines ≡ found →
    input_from port.name port.kind found ≡ Ok number → IsFound lines port number
one_found lines port number None named given = absurd cc
one_found lines port number (Some v) named given = by_fit lines port number v (fits port.kind v) refl named given
  where
    by_fit : (lines : List ValueLine) (port : Port) (number : ℕ) (v : ValueLine) (fit : Bool) → fits port.kind v ≡ fit →
        line_named port.name lines ≡ Some v → ◌≡◌ {A = Result ℕ InputError} (cond fit (Ok v.value) (Err (Form port.name))) (Ok number) →
        IsFound lines port number
    by_fit lines port number v false fit named given = absurd cc
    by_fit lines port number v true fit named given =
        let same : v.value ≡ number = cc in
        let parts = and_parts (is_file_kind port.kind v.kind) (v.bits == bits_of port.kind) fit in
        record {
          line = v;
          named = named;
          kind = kind_is port.kind v.kind parts.0;
          bits = eqb-true v.bits (bits_of port.kind) parts.1;
          value = same;
        }

record FoundMore (lines : List ValueLine) (before : List ℕ) (ports : List Port) (numbers : List ℕ) : Type 0 where
  more : List ℕ
  whole : numbers ≡ before ++ more
  are : AreFound lines ports more

abbrev then_found : List ℕ → List Port → List ValueLine → Result ℕ InputError → Result (List ℕ) InputError
then_found before ports lines (Ok number) = found_after (before ++ number ∷ []) ports lines
then_found before ports lines (Err error) = Err error

found_more : (lines : List ValueLine) (ports : List Port) (before numbers : List ℕ) → found_after before ports lines ≡ Ok numbers →
    FoundMore lines before ports numbers
found_more lines [] before numbers found =
    let same : before ≡ numbers = cc in
    record { more = []; whole = sym same ∙ sym (append-nil before); are = tt }
found_more lines (port ∷ ports) before numbers found =
    by_first lines port ports before numbers (input_from port.name port.kind (line_named port.name lines)) refl found
    (λ number. found_more lines ports (before ++ number ∷ []) numbers)
  where
    by_first : (lines : List ValueLine) (port : Port) (ports : List Port) (before numbers : List ℕ) (read : Result ℕ InputError) →
        input_from port.name port.kind (line_named port.name lines) ≡ read → then_found before ports lines read ≡ Ok numbers →
        ((number : ℕ) → found_after (before ++ number ∷ []) ports lines ≡ Ok numbers → FoundMore lines (before ++ number ∷ []) ports numbers) →
        FoundMore lines before (port ∷ ports) numbers
    by_first lines port ports before numbers (Err error) read found rest = absurd cc
    by_first lines port ports before numbers (Ok number) read found rest =
        let later = rest number found in
        record {
          more = number ∷ later.more;
          whole = later.whole ∙ append_assoc before (number ∷ []) later.more;
          are = (one_found lines port number (line_named port.name lines) refl read, later.are);
        }

pub are_found : (lines : List ValueLine) (ports : List Port) (numbers : List ℕ) → found_after [] ports lines ≡ Ok numbers →
    AreFound lines ports numbers
are_found lines ports numbers found =
    let all = found_more lines ports [] numbers found in
    subst (AreFound lines ports) (sym all.whole) all.are
