-- What a net that is compiled of a circuit is. Which net it is is free within this.
use Rattle.std.specs.Prelude.{ℕ, ◌≤◌, ◌≡◌, List, [], ◌∷◌, ◌++◌, map, length}
use Rattle.rx_params.specs.declared.kind.Kind.{Kind}
use Rattle.rx_params.specs.declared.kind.Kind.TheVariants.{Int as WholeNumber, Bit as OneBit}
use Rattle.rx_params.specs.Kinds.{greatest, block_count}
use Rattle.rx_net.specs.declared.net.NetInput.{NetInput}
use Rattle.rx_net.specs.declared.net.NetOutput.{NetOutput}
use Rattle.rx_net.specs.declared.net.Net.{Net}
use Rattle.rx_net.specs.Cells.{values_after, net_depth}
use Rattle.rx_net.specs.Legal.{Legal}
use Rattle.rx_net.specs.Numbers.{digits_of, outs}
use Rattle.rx_language.specs.declared.kind.NameKind.{NameKind}
use Rattle.rx_language.specs.declared.kind.NameKind.TheVariants.{Int, Sint, Bit}
use Rattle.rx_language.specs.Kinds.{bits_of}
use Rattle.rx_language.specs.Programs.{Program, Port, inputs_of, outputs_of}
use Rattle.rx_meaning.specs.Values.{AreWithin, outputs_for}
use Rattle.rx_meaning.specs.Bounds.{jobs_of, depth_of}

-- the kind of a number in nets and files, which know no sign
abbrev pub file_kind : NameKind → Kind
file_kind (Int width) = WholeNumber
file_kind (Sint width) = WholeNumber
file_kind Bit = OneBit

-- the input of a net for an input of a circuit: blocks without a carry, of noise 1
abbrev pub net_input : ℕ → Port → NetInput
net_input space port = record {
  name = port.name;
  kind = file_kind port.kind;
  bits = bits_of port.kind;
  degree = greatest (file_kind port.kind) space;
  noise = 1;
}

-- an output without its cells: its name, its kind and its bits
pub record Form : Type 0 where
  pub name : List ℕ
  pub kind : Kind
  pub bits : ℕ

abbrev pub form_of_output : NetOutput → Form
form_of_output o = record { name = o.name; kind = o.kind; bits = o.bits }

abbrev pub form_of_port : Port → Form
form_of_port port = record { name = port.name; kind = file_kind port.kind; bits = bits_of port.kind }

-- the digits of a number for an input, the least first
abbrev pub port_digits : ℕ → Port → ℕ → List ℕ
port_digits space port number = digits_of space (block_count (file_kind port.kind) space (bits_of port.kind)) number

-- the digits of all inputs: those of each number, in order
unfoldable pub input_digits : ℕ → List Port → List ℕ → List ℕ
input_digits space (port ∷ ports) (x ∷ xs) = port_digits space port x ++ input_digits space ports xs
input_digits space _ _ = []

-- The net is legal, has the inputs and the outputs of the circuit, gives the circuit's values for all inputs within their kinds,
-- and has no more jobs and no greater depth than the circuit's bounds.
pub record Compiled (p : Program) (net : Net) : Type 0 where
  pub legal : Legal net
  pub space : net.space ≡ p.space
  pub inputs : net.inputs ≡ map (net_input p.space) (inputs_of p)
  pub outputs : map form_of_output net.outputs ≡ map form_of_port (outputs_of p)
  pub values : (xs : List ℕ) → AreWithin (inputs_of p) xs →
      outs net (values_after (input_digits p.space (inputs_of p) xs) net.jobs) ≡ outputs_for p xs
  pub jobs_in : length net.jobs ≤ jobs_of p
  pub depth_in : net_depth net ≤ depth_of p
