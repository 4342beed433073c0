-- plain CIRCUIT VALUES: evaluates a circuit in the clear, and prints its outputs.
use Rattle.std.specs.Prelude.{ℕ, ◌≡◌, List, [], ◌∷◌, Option, Some, None, Result, Ok, Err}
use Rattle.rx_text.specs.declared.fault.LineFault.{LineFault}
use Rattle.rx_language.specs.Programs.{Program, inputs_of, outputs_of}
use Rattle.rx_language.specs.Texts.{IsCircuit}
use Rattle.rx_language.specs.Reading.{circuit_from}
use Rattle.rx_meaning.specs.Values.{outputs_for}
use Rattle.rx_circuit.specs.declared.values.ValueLine.{ValueLine}
use Rattle.rx_circuit.specs.declared.inputs.InputError.{InputError}
use Rattle.rx_circuit.specs.declared.inputs.InputError.TheVariants.{Missing, Form, Memory}
use Rattle.rx_circuit.specs.Values.{ValuesText, values_from}
use Rattle.rx_circuit.specs.Inputs.{found_inputs}
use Rattle.rx_circuit.specs.Outputs.{number_lines, port_names}
use Rattle.rx_server.specs.declared.fault.InputFault.TheVariants.{Missing as MissingInput, Form as WrongForm}
use Rattle.rx_report.specs.Reports.{Report, malformed_text, wrong_input}
use Rattle.rx_tool.specs.declared.command.Command.{Command}
use Rattle.rx_tool.specs.declared.command.Command.TheVariants.{Plain}

abbrev pub plain_of : List (List ℕ) → Option Command
plain_of (circuit ∷ values ∷ []) = Some (Plain circuit values)
plain_of _ = None

-- an input of the circuit for which the value file has no number; want of memory is no refusal
abbrev pub input_refusal : InputError → Option Report
input_refusal (Missing name) = Some (wrong_input (MissingInput name))
input_refusal (Form name) = Some (wrong_input (WrongForm name))
input_refusal Memory = None

abbrev pub inputs_refused : Result (List ℕ) InputError → Option Report
inputs_refused (Ok numbers) = None
inputs_refused (Err error) = input_refusal error

abbrev pub plain_refused : List ℕ → List ℕ → Result Program LineFault → Result (List ValueLine) LineFault → Option Report
plain_refused circuit values (Err fault) lines = Some (malformed_text circuit fault)
plain_refused circuit values (Ok p) (Err fault) = Some (malformed_text values fault)
plain_refused circuit values (Ok p) (Ok lines) = inputs_refused (found_inputs (inputs_of p) lines)

-- what refuses: the circuit, then the value file, then the first input for which it has no number
abbrev pub plain_refusal : List ℕ → List ℕ → List (List ℕ) → Option Report
plain_refusal circuit values (circuit_file ∷ value_file ∷ []) =
    plain_refused circuit values (circuit_from circuit_file) (values_from value_file)
plain_refusal circuit values _ = None

-- the circuit and the value lines that the files spell, the numbers of the inputs, and the lines of the outputs
abbrev pub PlainDoes : List (List ℕ) → List (List ℕ × List ℕ) → List ℕ → Type 0
PlainDoes (circuit_file ∷ value_file ∷ []) writes lines =
    (p : Program) × (values : List ValueLine) × (numbers : List ℕ) × IsCircuit circuit_file p × ValuesText value_file values
    × (found_inputs (inputs_of p) values ≡ Ok numbers) × (writes ≡ [])
    × (lines ≡ number_lines (port_names (outputs_of p)) (outputs_for p numbers))
PlainDoes _ writes lines = ⊥
