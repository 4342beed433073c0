-- The commands on circuits: their words and what refuses them, computed by the definitions.
use Rattle.std.proofs.Common.{◌≡◌, ◌-◌, ◌^◌, ℕ, List, [], ◌∷◌, ◌++◌, Some, None, refl}
use Rattle.std.specs.Fmt.{digits}
use Rattle.std.specs.Prelude.{codes}
use Rattle.rx_language.specs.Programs.{steps_by}
use Rattle.rx_language.specs.Reading.{circuit_from, header_from, ranged_header, line_after, spelled_from, ranged, first_from, name_from, numeral_from}
use Rattle.rx_circuit.specs.Values.{values_from}
use Rattle.rx_report.specs.declared.refusal.Kind.{Kind}
use Rattle.rx_report.specs.declared.refusal.Kind.TheVariants.{Malformed, Inputs}
use Rattle.rx_report.specs.Reports.{Report}
use Rattle.rx_tool.specs.declared.command.Command.TheVariants.{Plain, Make}
use Rattle.rx_tool.specs.Commands.{command_of, reads_of, command_refusal}

plains : (command_of (codes "plain" ∷ codes "c" ∷ codes "v" ∷ []) ≡ Some (Plain (codes "c") (codes "v"))) × (command_of (codes "plain" ∷ codes "c" ∷ []) ≡ None)
    × (reads_of (Plain (codes "c") (codes "v")) ≡ codes "c" ∷ codes "v" ∷ [])
plains = (refl, refl, refl)

makes : (command_of (codes "make" ∷ codes "18446744073709551615" ∷ codes "c" ∷ codes "v" ∷ []) ≡ Some (Make (2 ^ 64 - 1) (codes "c") (codes "v")))
    × (command_of (codes "make" ∷ codes "01" ∷ codes "c" ∷ codes "v" ∷ []) ≡ None) × (reads_of (Make 1 (codes "c") (codes "v")) ≡ [])
    × (command_refusal (Make 1 (codes "c") (codes "v")) [] ≡ None)
makes = (refl, refl, refl, refl)

abbrev reported : Kind → List ℕ → Report
reported kind words = (kind, words ++ 10 ∷ [])

abbrev one_input : List ℕ
one_input = codes "bits 2 8" ++ 10 ∷ codes "in a" ++ 10 ∷ []

-- the circuit before the value file, and this before an input
circuit_first : command_refusal (Plain (codes "c") (codes "v")) ((codes "bits 2 31" ++ 10 ∷ []) ∷ codes "x" ∷ []) ≡ Some (reported Malformed (codes "malformed c line 1 number"))
unfolding circuit_from header_from ranged_header numeral_from digits
circuit_first = refl

values_next : command_refusal (Plain (codes "c") (codes "v")) (one_input ∷ codes "x" ∷ []) ≡ Some (reported Malformed (codes "malformed v line 1 form"))
unfolding circuit_from header_from ranged_header line_after spelled_from ranged first_from name_from numeral_from steps_by values_from digits
values_next = refl

input_last : command_refusal (Plain (codes "c") (codes "v")) (one_input ∷ [] ∷ []) ≡ Some (reported Inputs (codes "inputs a missing"))
unfolding circuit_from header_from ranged_header line_after spelled_from ranged first_from name_from numeral_from steps_by values_from
input_last = refl

input_form : command_refusal (Plain (codes "c") (codes "v")) (one_input ∷ (codes "bit a 1 1" ++ 10 ∷ []) ∷ []) ≡ Some (reported Inputs (codes "inputs a form"))
unfolding circuit_from header_from ranged_header line_after spelled_from ranged first_from name_from numeral_from steps_by values_from
input_form = refl
