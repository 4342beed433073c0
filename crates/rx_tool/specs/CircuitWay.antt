-- The whole way of a circuit: a net that is compiled of it gives, under encryption, the values of the circuit.
use Rattle.std.specs.Prelude.{ℕ, ◌≡◌, ◌≤◌, List, length, map, None, Ok}
use Rattle.std.specs.List.{filter, AllByRecursion}
use Rattle.std.specs.Str.{bytes_eq}
use Rattle.rx_params.specs.Acceptance.{Accepts}
use Rattle.rx_lwe.specs.Secret.{large_key}
use Rattle.rx_net.specs.declared.net.Net.{Net}
use Rattle.rx_net.specs.Cells.{values_after}
use Rattle.rx_net.specs.Numbers.{number_of}
use Rattle.rx_block.specs.Keeps.{AreKept}
use Rattle.rx_language.specs.Programs.{Program, Port, IsProgram, inputs_of, outputs_of}
use Rattle.rx_meaning.specs.Values.{outputs_for}
use Rattle.rx_circuit.specs.declared.values.ValueLine.{ValueLine}
use Rattle.rx_circuit.specs.Inputs.{found_inputs}
use Rattle.rx_circuit.specs.Outputs.{number_lines, port_names}
use Rattle.rx_codec.specs.declared.client.Client.{Client}
use Rattle.rx_codec.specs.Kept.{AreItemsKept}
use Rattle.rx_client.specs.Decrypt.{first_damage}
use Rattle.rx_compile.specs.Compiled.{Compiled, input_digits}
use Rattle.rx_tool.specs.WholeWay.{Batch, batch_lines, plain_digits, cells_over, run_over, digits_over, decrypted_lines, IsBatch, GoTogether}

-- no input's name stands in two of the lines; other names may
abbrev pub InputsOnce : List Port → List ValueLine → Type 0
InputsOnce ports lines = AllByRecursion (λ (port : Port). length (filter (λ (v : ValueLine). bytes_eq v.name port.name) lines) ≤ 1) ports

-- The client's set is accepted, the circuit is one of its message bits, the net is compiled of it, and the batches hold lines that
-- `encrypt` takes, among them the number of each of the circuit's inputs, once.
pub record CircuitGoes (c : Client) (p : Program) (net : Net) (batches : List Batch) (numbers : List ℕ) : Type 0 where
  pub accepted : Accepts c.params
  pub is_program : IsProgram p
  pub space : p.space ≡ c.params.message_bits
  pub compiled : Compiled p net
  pub each : AllByRecursion (IsBatch c) batches
  pub once : InputsOnce (inputs_of p) (batch_lines batches)
  pub found : found_inputs (inputs_of p) (batch_lines batches) ≡ Ok numbers

-- a line for each output of a circuit, with its value for these numbers of the inputs
abbrev pub circuit_lines : Program → List ℕ → List ℕ
circuit_lines p numbers = number_lines (port_names (outputs_of p)) (outputs_for p numbers)

-- the values of all cells of a net that is compiled of a circuit, for these numbers of its inputs
abbrev pub circuit_cells : Program → Net → List ℕ → List ℕ
circuit_cells p net numbers = values_after (input_digits p.space (inputs_of p) numbers) net.jobs

-- Whatever the seeds are: the net may be run over the batches, its inputs are the digits of the circuit's inputs, and each cell of
-- the run keeps the value that the net gives it for them; the outputs that a server gives keep digits whose numbers are the
-- circuit's values, none of their blocks is damaged, and the client decrypts the lines of the circuit's values.
pub record CircuitWayLaws : Type 0 where
  pub together : (c : Client) (p : Program) (net : Net) (batches : List Batch) (numbers : List ℕ) → CircuitGoes c p net batches numbers →
      GoTogether c net batches
  pub digits : (c : Client) (p : Program) (net : Net) (batches : List Batch) (numbers : List ℕ) → CircuitGoes c p net batches numbers →
      plain_digits net.space net.inputs (batch_lines batches) ≡ input_digits p.space (inputs_of p) numbers
  pub cells : (c : Client) (server_mask : List ℕ) (p : Program) (net : Net) (batches : List Batch) (numbers : List ℕ) →
      CircuitGoes c p net batches numbers →
      AreKept c.params (large_key c.params c.seed) (cells_over c server_mask net batches) (circuit_cells p net numbers)
  pub kept : (c : Client) (server_mask : List ℕ) (p : Program) (net : Net) (batches : List Batch) (numbers : List ℕ) →
      CircuitGoes c p net batches numbers →
      AreItemsKept c.params (large_key c.params c.seed) (run_over c server_mask net batches).items (digits_over c net batches)
  pub values : (c : Client) (p : Program) (net : Net) (batches : List Batch) (numbers : List ℕ) → CircuitGoes c p net batches numbers →
      map (number_of p.space) (digits_over c net batches) ≡ outputs_for p numbers
  pub undamaged : (c : Client) (server_mask : List ℕ) (p : Program) (net : Net) (batches : List Batch) (numbers : List ℕ) →
      CircuitGoes c p net batches numbers →
      first_damage c.params (large_key c.params c.seed) (run_over c server_mask net batches).items ≡ None
  pub lines : (c : Client) (server_mask : List ℕ) (p : Program) (net : Net) (batches : List Batch) (numbers : List ℕ) →
      CircuitGoes c p net batches numbers → decrypted_lines c server_mask net batches ≡ circuit_lines p numbers
