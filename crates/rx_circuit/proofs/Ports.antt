-- Inputs that are found are within their ranges; outputs beside their names.
use Rattle.std.proofs.Common.{◌≡◌, ◌==◌, ◌<◌, ◌^◌, ℕ, Bool, true, false, cond, List, [], ◌∷◌, ◌++◌, length, Option, Some, None, Result, Ok, Err, refl, sym, ap, subst, ◌∙◌, append_assoc, arith}
use Rattle.std.specs.List.{AllByRecursion}
use Rattle.std.specs.Str.{bytes_eq}
use Rattle.std.proofs.lemmas.Bool.{and_parts, eqb-true}
use Rattle.std.proofs.lemmas.List.{append-nil}
use Rattle.rx_language.specs.declared.kind.NameKind.{NameKind}
use Rattle.rx_language.specs.declared.line.Line.{Line}
use Rattle.rx_language.specs.declared.line.Step.{Step}
use Rattle.rx_language.specs.Words.{is_output}
use Rattle.rx_language.specs.Kinds.{bits_of}
use Rattle.rx_language.specs.Programs.{Port, ports_in}
use Rattle.rx_meaning.specs.Values.{AreWithin}
use Rattle.rx_circuit.specs.declared.values.ValueLine.{ValueLine}
use Rattle.rx_circuit.specs.declared.inputs.InputError.{InputError}
use Rattle.rx_circuit.specs.declared.inputs.InputError.TheVariants.{Form}
use Rattle.rx_circuit.specs.Values.{IsValueLine}
use Rattle.rx_circuit.specs.Inputs.{line_named, is_file_kind, fits, input_from, found_after}
use Rattle.rx_circuit.specs.Outputs.{port_names, output_names}

-- ---- inputs
named_is : (name : List ℕ) (values : List ValueLine) (v : ValueLine) → AllByRecursion IsValueLine values → line_named name values ≡ Some v → IsValueLine v
named_is name [] v each h = absurd cc
named_is name (w ∷ values) v each h = first_is name w values v (bytes_eq w.name name) each h (named_is name values v each.1)
  where
    first_is : (name : List ℕ) (w : ValueLine) (values : List ValueLine) (v : ValueLine) (here : Bool) → AllByRecursion IsValueLine (w ∷ values)
        → cond here (Some w) (line_named name values) ≡ Some v → (line_named name values ≡ Some v → IsValueLine v) → IsValueLine v
    first_is name w values v true each h later = let same : w ≡ v = cc in subst IsValueLine same each.0
    first_is name w values v false each h later = later h

number_within : (name : List ℕ) (kind : NameKind) (values : List ValueLine) (found : Option ValueLine) (number : ℕ) → found ≡ line_named name values
    → AllByRecursion IsValueLine values → input_from name kind found ≡ Ok number → number < 2 ^ bits_of kind
number_within name kind values None number e each h = absurd cc
number_within name kind values (Some v) number e each h =
    fit_cases name kind v number (fits kind v) refl (named_is name values v each (sym e)) h
  where
    fit_cases : (name : List ℕ) (kind : NameKind) (v : ValueLine) (number : ℕ) (fit : Bool) → fit ≡ fits kind v → IsValueLine v
        → ◌≡◌ {A = Result ℕ InputError} (cond fit (Ok v.value) (Err (Form name))) (Ok number) → number < 2 ^ bits_of kind
    fit_cases name kind v number false e line h = absurd cc
    fit_cases name kind v number true e line h =
        let same : v.value ≡ number = cc in
        let bits : v.bits ≡ bits_of kind = eqb-true v.bits (bits_of kind) (and_parts (is_file_kind kind v.kind) (v.bits == bits_of kind) (sym e)).1 in
        subst (λ (n : ℕ). n < 2 ^ bits_of kind) same (subst (λ (b : ℕ). v.value < 2 ^ b) bits line.value)

record Found (before : List ℕ) (ports : List Port) (numbers : List ℕ) : Type 0 where
  more : List ℕ
  whole : numbers ≡ before ++ more
  within : AreWithin ports more

abbrev then_found : List ℕ → List Port → List ValueLine → Result ℕ InputError → Result (List ℕ) InputError
then_found before ports values (Ok number) = found_after (before ++ number ∷ []) ports values
then_found before ports values (Err error) = Err error

found_within : (values : List ValueLine) → AllByRecursion IsValueLine values → (ports : List Port) (before numbers : List ℕ) → found_after before ports values ≡ Ok numbers
    → Found before ports numbers
found_within values each [] before numbers h =
    let same : before ≡ numbers = cc in
    record { more = []; whole = sym same ∙ sym (append-nil before); within = tt }
found_within values each (port ∷ ports) before numbers h =
    one_found values each port ports before numbers (input_from port.name port.kind (line_named port.name values)) refl h (λ n. found_within values each ports (before ++ n ∷ []) numbers)
  where
    one_found : (values : List ValueLine) → AllByRecursion IsValueLine values → (port : Port) (ports : List Port) (before numbers : List ℕ) (r : Result ℕ InputError)
        → r ≡ input_from port.name port.kind (line_named port.name values)
        → then_found before ports values r ≡ Ok numbers
        → ((n : ℕ) → found_after (before ++ n ∷ []) ports values ≡ Ok numbers → Found (before ++ n ∷ []) ports numbers) → Found before (port ∷ ports) numbers
    one_found values each port ports before numbers (Err error) e h rest = absurd cc
    one_found values each port ports before numbers (Ok number) e h rest =
        let later = rest number h in
        record {
          more = number ∷ later.more;
          whole = later.whole ∙ append_assoc before (number ∷ []) later.more;
          within = (number_within port.name port.kind values (line_named port.name values) number refl each (sym e), later.within);
        }

pub are_within : (values : List ValueLine) → AllByRecursion IsValueLine values → (ports : List Port) (numbers : List ℕ) → found_after [] ports values ≡ Ok numbers
    → AreWithin ports numbers
are_within values each ports numbers h =
    let found = found_within values each ports [] numbers h in
    subst (AreWithin ports) (sym found.whole) found.within

-- ---- outputs
pub same_count : (ports : List Port) (numbers : List ℕ) → AreWithin ports numbers → length numbers ≡ length (port_names ports)
same_count [] [] h = refl
same_count [] (x ∷ xs) h = absurd h
same_count (port ∷ ports) [] h = absurd h
same_count (port ∷ ports) (x ∷ xs) h = omega (arith, same_count ports xs h.1)

pub names_are : (lines : List Line) (steps : List Step) → length steps ≡ length lines → output_names lines ≡ port_names (ports_in is_output lines steps)
names_are [] steps same = refl
names_are (line ∷ lines) [] same = absurd (omega (arith, same))
names_are (line ∷ lines) (step ∷ steps) same =
    let rest = names_are lines steps (omega (arith, same)) in
    put_cases line lines step steps (is_output line.word) rest
  where
    put_cases : (line : Line) (lines : List Line) (step : Step) (steps : List Step) (out : Bool) → output_names lines ≡ port_names (ports_in is_output lines steps)
        → cond out (line.name ∷ output_names lines) (output_names lines)
        ≡ port_names (cond out (record { name = line.name; kind = step.kind } ∷ ports_in is_output lines steps) (ports_in is_output lines steps))
    put_cases line lines step steps true rest = ap (λ (names : List (List ℕ)). line.name ∷ names) rest
    put_cases line lines step steps false rest = rest
