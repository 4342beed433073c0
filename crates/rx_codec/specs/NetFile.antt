-- The net file: the magic `RXN1`, the space, then the inputs, the jobs and the outputs, each list after its number.
-- An input is a name, a form, a degree and a noise tag. A job is its terms after their number, a constant, one entry of a
-- table for each number of a block, and a degree. A term is a cell and a weight. An output is a name, a form and a cell for each
-- of its blocks. Whole numbers are little-endian, and negative ones are counted from the top.
use Rattle.std.specs.Prelude.{ℕ, ◌≡◌, nat_le, ◌&&◌, ◌||◌, ◌==◌, List, [], ◌∷◌, ◌++◌, length, codes, Result, Ok, Err, Option, Some, None}
use Rattle.std.specs.List.{flat_map}
use Rattle.std.specs.Int.{w8, w16, w32, to_le_bytes}
use Rattle.rx_laws.specs.Decode.{plaintexts}
use Rattle.rx_params.specs.Derived.{noise_limit}
use Rattle.rx_params.specs.Kinds.{greatest, block_count}
use Rattle.rx_net.specs.declared.term.Term.{Term}
use Rattle.rx_net.specs.declared.net.Job.{Job}
use Rattle.rx_net.specs.declared.net.NetInput.{NetInput}
use Rattle.rx_net.specs.declared.net.NetOutput.{NetOutput}
use Rattle.rx_net.specs.declared.net.Net.{Net}
use Rattle.rx_net.specs.declared.fault.NetFault.{NetFault}
use Rattle.rx_net.specs.Limits.{most_inputs, most_outputs, most_terms, most_jobs}
use Rattle.rx_net.specs.Legal.{names_input, names_output}
use Rattle.rx_net.specs.Named.{IsNet}
use Rattle.rx_net.specs.Faults.{fault_of}
use Rattle.rx_codec.specs.declared.fault.CodecFault.{CodecFault}
use Rattle.rx_codec.specs.declared.fault.CodecFault.TheVariants.{Net as NotLegal}
use Rattle.rx_codec.specs.NamedFields.{named_bytes, name_at, form_at}
use Rattle.rx_codec.specs.Reading.{◌>>=◌, bytes_at, number_at, signed_at, signed_bytes, in_range, many_at, list_bytes, list_at, magic_at, ends_at}

-- ---- the one spelling
abbrev pub input_bytes : NetInput → List ℕ
input_bytes i = named_bytes i.name i.kind i.bits ++ i.degree ∷ i.noise ∷ []

abbrev pub term_bytes : Term → List ℕ
term_bytes t = to_le_bytes w32 t.cell ++ signed_bytes w8 t.weight

abbrev pub job_bytes : Job → List ℕ
job_bytes j =
    (length j.terms ∷ flat_map term_bytes j.terms) ++ signed_bytes w16 j.constant ++ j.table ++ j.degree ∷ []

abbrev pub output_bytes : NetOutput → List ℕ
output_bytes o = named_bytes o.name o.kind o.bits ++ flat_map (to_le_bytes w32) o.cells

-- the three lists of a net
abbrev pub lists_bytes : Net → List ℕ
lists_bytes n = list_bytes w16 input_bytes n.inputs ++ list_bytes w32 job_bytes n.jobs ++ list_bytes w16 output_bytes n.outputs

abbrev pub net_bytes : Net → List ℕ
net_bytes n = (codes "RXN1" ++ n.space ∷ []) ++ lists_bytes n

-- the bytes are the net file of the net
pub record NetFile (bytes : List ℕ) (n : Net) : Type 0 where
  pub fits : IsNet n
  pub spelled : bytes ≡ net_bytes n

-- ---- reading, with the first fault
unfoldable pub input_at : ℕ → List NetInput → List ℕ → ℕ → Result (NetInput × ℕ) CodecFault
input_at space before file at = do
  name ← name_at (λ name. names_input name before) file at
  form ← form_at space file name.1
  degree ← number_at w8 file form.1
  degree ← in_range (nat_le degree.0 (greatest form.0.0 space)) form.1 degree
  noise ← number_at w8 file degree.1
  noise ← in_range (nat_le 1 noise.0 && nat_le noise.0 (noise_limit space)) degree.1 noise
  Ok (record { name = name.0; kind = form.0.0; bits = form.0.1; degree = degree.0; noise = noise.0 }, noise.1)

unfoldable pub term_at : List ℕ → ℕ → Result (Term × ℕ) CodecFault
term_at file at = do
  cell ← number_at w32 file at
  weight ← signed_at w8 file cell.1
  Ok (record { cell = cell.0; weight = weight.0 }, weight.1)

unfoldable pub job_at : ℕ → List ℕ → ℕ → Result (Job × ℕ) CodecFault
job_at space file at = do
  terms ← list_at w8 most_terms (λ before. term_at) file at
  constant ← signed_at w16 file terms.1
  table ← bytes_at file (plaintexts space) constant.1
  degree ← number_at w8 file table.1
  Ok (record { terms = terms.0; constant = constant.0; table = table.0; degree = degree.0 }, degree.1)

unfoldable pub output_at : ℕ → List NetOutput → List ℕ → ℕ → Result (NetOutput × ℕ) CodecFault
output_at space before file at = do
  name ← name_at (λ name. names_output name before) file at
  form ← form_at space file name.1
  cells ← many_at (λ before. number_at w32) (block_count form.0.0 space form.0.1) [] file form.1
  Ok (record { name = name.0; kind = form.0.0; bits = form.0.1; cells = cells.0 }, cells.1)

unfoldable pub space_at : List ℕ → ℕ → Result (ℕ × ℕ) CodecFault
space_at file at = do
  space ← number_at w8 file at
  in_range ((space.0 == 2) || (space.0 == 3)) at space

-- a net of a space, of its three lists
unfoldable pub lists_at : ℕ → List ℕ → ℕ → Result (Net × ℕ) CodecFault
lists_at space file at = do
  inputs ← list_at w16 most_inputs (input_at space) file at
  jobs ← list_at w32 most_jobs (λ before. job_at space) file inputs.1
  outputs ← list_at w16 most_outputs (output_at space) file jobs.1
  Ok (record { space = space; inputs = inputs.0; jobs = jobs.0; outputs = outputs.0 }, outputs.1)

-- the net that the fields of a file spell, legal or not
unfoldable pub spelled_from : List ℕ → Result Net CodecFault
spelled_from file = do
  after ← magic_at (codes "RXN1") file
  space ← space_at file after
  net ← lists_at space.0 file space.1
  ends_at file net.1 net.0

abbrev pub legal_or : Option NetFault → Net → Result Net CodecFault
legal_or None net = Ok net
legal_or (Some fault) net = Err (NotLegal fault)

-- the net that a file spells, or its first fault
unfoldable pub net_from : List ℕ → Result Net CodecFault
net_from file = do
  net ← spelled_from file
  legal_or (fault_of net) net
