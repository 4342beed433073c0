-- trip CLIENT KEYSEED MASKSEED NOISESEED CIRCUIT VALUES WORKERS PREFIX: does what `keygen`, `compile`, `encrypt`, `run` and `decrypt`
-- do one after the other, each over the files of those before it. What it prints are the values of the circuit.
use Rattle.std.specs.Prelude.{ℕ, ◌≡◌, List, [], ◌∷◌, ◌++◌, codes, Option, Some, None, Result, Ok, Err}
use Rattle.std.specs.Option.{option_map, option_and_then, option_or}
use Rattle.rx_text.specs.declared.fault.LineFault.{LineFault}
use Rattle.rx_net.specs.declared.net.Net.{Net}
use Rattle.rx_lwe.specs.Secret.{large_key}
use Rattle.rx_block.specs.Keeps.{AreKept}
use Rattle.rx_language.specs.Programs.{Program, inputs_of}
use Rattle.rx_language.specs.Texts.{IsCircuit}
use Rattle.rx_language.specs.Reading.{circuit_from}
use Rattle.rx_meaning.specs.Bounds.{jobs_of}
use Rattle.rx_circuit.specs.declared.values.ValueLine.{ValueLine}
use Rattle.rx_circuit.specs.Values.{ValuesText, values_from}
use Rattle.rx_circuit.specs.Inputs.{found_inputs}
use Rattle.rx_codec.specs.declared.client.Client.{Client}
use Rattle.rx_codec.specs.declared.fault.CodecFault.{CodecFault}
use Rattle.rx_codec.specs.ClientFile.{ClientFile, client_from}
use Rattle.rx_codec.specs.NetFile.{NetFile}
use Rattle.rx_client.specs.Encrypt.{first_width}
use Rattle.rx_report.specs.Reports.{Report, malformed_binary, malformed_text}
use Rattle.rx_tool.specs.declared.command.TripWords.{TripWords}
use Rattle.rx_tool.specs.declared.command.Command.{Command}
use Rattle.rx_tool.specs.declared.command.Command.TheVariants.{Trip}
use Rattle.rx_tool.specs.MakeClient.{seed_of}
use Rattle.rx_tool.specs.Refusals.{space_difference, IsWithinLimits, limits_refusal}
use Rattle.rx_tool.specs.Keygen.{KeygenDoes}
use Rattle.rx_tool.specs.Compile.{CompileDoes}
use Rattle.rx_tool.specs.Encrypt.{width_refusal, EncryptDoes}
use Rattle.rx_tool.specs.Run.{word_number, RunDoes}
use Rattle.rx_tool.specs.Decrypt.{DecryptDoes}
use Rattle.rx_tool.specs.Plain.{inputs_refused}
use Rattle.rx_tool.specs.WholeWay.{batch_of, cells_over}
use Rattle.rx_tool.specs.CircuitWay.{circuit_cells, circuit_lines}

abbrev pub words_of : List ℕ → List ℕ → List ℕ → List ℕ → List ℕ → List ℕ → ℕ → List ℕ → TripWords
words_of client key_seed mask_seed noise_seed circuit values workers prefix = record {
  client = client;
  key_seed = key_seed;
  mask_seed = mask_seed;
  noise_seed = noise_seed;
  circuit = circuit;
  values = values;
  workers = workers;
  prefix = prefix;
}

-- the words after the seeds
abbrev pub trip_with : List ℕ → List ℕ → List ℕ → List ℕ → List (List ℕ) → Option Command
trip_with client key_seed mask_seed noise_seed (circuit ∷ values ∷ workers ∷ prefix ∷ []) =
    option_map (λ count. Trip (words_of client key_seed mask_seed noise_seed circuit values count prefix)) (word_number workers)
trip_with client key_seed mask_seed noise_seed _ = None

abbrev pub trip_of : List (List ℕ) → Option Command
trip_of (client ∷ key_seed ∷ mask_seed ∷ noise_seed ∷ rest) =
    option_and_then (λ key. option_and_then (λ mask. option_and_then (λ noise. trip_with client key mask noise rest) (seed_of noise_seed))
    (seed_of mask_seed)) (seed_of key_seed)
trip_of _ = None

-- ---- what refuses

-- What refuses the values of well-formed files: other message bits than the client's, an input of the circuit, a width, and then
-- the limits of a run of as many jobs as the lines of the circuit may take.
abbrev pub trip_values_refusal : TripWords → Client → Program → List ValueLine → Option Report
trip_values_refusal t c p values =
    option_or (space_difference t.circuit c.params p.space)
    (option_or (inputs_refused (found_inputs (inputs_of p) values))
    (option_or (width_refusal c values) (limits_refusal c.params t.workers (jobs_of p))))

abbrev pub trip_refused : TripWords → Result Client CodecFault → Result Program LineFault → Result (List ValueLine) LineFault → Option Report
trip_refused t (Err fault) circuit values = malformed_binary t.client fault
trip_refused t (Ok c) (Err fault) values = Some (malformed_text t.circuit fault)
trip_refused t (Ok c) (Ok p) (Err fault) = Some (malformed_text t.values fault)
trip_refused t (Ok c) (Ok p) (Ok values) = trip_values_refusal t c p values

-- what refuses: the client file, the circuit, the value file, and then their values
abbrev pub trip_refusal : TripWords → List (List ℕ) → Option Report
trip_refusal t (client_file ∷ circuit_file ∷ value_file ∷ []) =
    trip_refused t (client_from client_file) (circuit_from circuit_file) (values_from value_file)
trip_refusal t _ = None

-- a value file has a number for each input of a circuit
pub record HasInputs (p : Program) (values : List ValueLine) : Type 0 where
  pub numbers : List ℕ
  pub found : found_inputs (inputs_of p) values ≡ Ok numbers

-- what is known where nothing refuses
pub record MayTrip (t : TripWords) (c : Client) (p : Program) (values : List ValueLine) : Type 0 where
  pub space : p.space ≡ c.params.message_bits
  pub inputs : HasInputs p values
  pub widths : first_width c.params.message_bits values ≡ None
  pub limits : IsWithinLimits c.params t.workers (jobs_of p)

-- ---- what it does

abbrev pub server_name : TripWords → List ℕ
server_name t = t.prefix ++ codes ".server"

abbrev pub net_name : TripWords → List ℕ
net_name t = t.prefix ++ codes ".net"

abbrev pub inputs_name : TripWords → List ℕ
inputs_name t = t.prefix ++ codes ".inputs"

abbrev pub outputs_name : TripWords → List ℕ
outputs_name t = t.prefix ++ codes ".outputs"

-- the four files with these bytes, in the order of writing
abbrev pub trip_files : TripWords → List ℕ → List ℕ → List ℕ → List ℕ → List (List ℕ × List ℕ)
trip_files t server net inputs outputs =
    (server_name t, server) ∷ (net_name t, net) ∷ (inputs_name t, inputs) ∷ (outputs_name t, outputs) ∷ []

-- each cell of the net keeps, under the client's key, the value that the net gives it for these numbers of the circuit's inputs
abbrev pub CellsKeep : TripWords → Client → Program → Net → List ValueLine → List ℕ → Type 0
CellsKeep t c p net values numbers =
    AreKept c.params (large_key c.params c.seed) (cells_over c t.key_seed net (batch_of t.mask_seed t.noise_seed values ∷ []))
    (circuit_cells p net numbers)

-- The four files are those that the commands write, each over the files of those before it, and the lines are those that `decrypt`
-- prints of the last. And they are the lines of the circuit's values for the numbers that the value file gives its inputs, and each
-- cell of the net keeps its value for them.
pub record TripsOver (t : TripWords) (client_file circuit_file value_file : List ℕ) (writes : List (List ℕ × List ℕ)) (lines : List ℕ) : Type 0 where
  pub server : List ℕ
  pub net : List ℕ
  pub inputs : List ℕ
  pub outputs : List ℕ
  pub wrote : writes ≡ trip_files t server net inputs outputs
  pub keygen : KeygenDoes t.key_seed (server_name t) (client_file ∷ []) ((server_name t, server) ∷ []) []
  pub size : List ℕ
  pub compile : CompileDoes (net_name t) (circuit_file ∷ []) ((net_name t, net) ∷ []) size
  pub encrypt : EncryptDoes t.mask_seed t.noise_seed (inputs_name t) (client_file ∷ value_file ∷ []) ((inputs_name t, inputs) ∷ []) []
  pub jobs : List ℕ
  pub run : RunDoes (outputs_name t) (server ∷ net ∷ inputs ∷ []) ((outputs_name t, outputs) ∷ []) jobs
  pub decrypt : DecryptDoes (client_file ∷ outputs ∷ []) [] lines
  pub circuit : Program
  pub values : List ValueLine
  pub numbers : List ℕ
  pub is_circuit : IsCircuit circuit_file circuit
  pub are_values : ValuesText value_file values
  pub found : found_inputs (inputs_of circuit) values ≡ Ok numbers
  pub printed : lines ≡ circuit_lines circuit numbers
  pub client : Client
  pub compiled : Net
  pub is_client : ClientFile client_file client
  pub is_net : NetFile net compiled
  pub cells_keep : CellsKeep t client circuit compiled values numbers

abbrev pub TripDoes : TripWords → List (List ℕ) → List (List ℕ × List ℕ) → List ℕ → Type 0
TripDoes t (client_file ∷ circuit_file ∷ value_file ∷ []) writes lines = TripsOver t client_file circuit_file value_file writes lines
TripDoes t _ writes lines = ⊥

-- the same for whatever files spell these values
abbrev pub TripsWith : TripWords → Client → Program → List ValueLine → List (List ℕ × List ℕ) → List ℕ → Type 0
TripsWith t c p values writes lines =
    (client_file circuit_file value_file : List ℕ) → ClientFile client_file c → IsCircuit circuit_file p → ValuesText value_file values →
    TripsOver t client_file circuit_file value_file writes lines
