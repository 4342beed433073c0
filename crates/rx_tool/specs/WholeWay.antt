-- The whole way: what a client encrypts, a server evaluates, and the client decrypts.
use Rattle.std.specs.Prelude.{ℕ, ◌≡◌, List, [], ◌∷◌, ◌++◌, map, None}
use Rattle.std.specs.List.{flat_map, filter, AllByRecursion}
use Rattle.std.specs.Str.{bytes_eq}
use Rattle.rx_params.specs.Acceptance.{Accepts}
use Rattle.rx_lwe.specs.Secret.{large_key}
use Rattle.rx_net.specs.declared.net.NetInput.{NetInput}
use Rattle.rx_net.specs.declared.net.NetOutput.{NetOutput}
use Rattle.rx_net.specs.declared.net.Net.{Net}
use Rattle.rx_net.specs.Cells.{values_after}
use Rattle.rx_net.specs.Named.{IsNet}
use Rattle.rx_boot.specs.ServerKeys.{server_key}
use Rattle.rx_block.specs.declared.block.Block.{Block}
use Rattle.rx_block.specs.Keeps.{AreKept}
use Rattle.rx_crew.specs.Evaluation.{evaluated}
use Rattle.rx_circuit.specs.declared.values.ValueLine.{ValueLine}
use Rattle.rx_circuit.specs.Values.{AreValues}
use Rattle.rx_codec.specs.declared.client.Client.{Client}
use Rattle.rx_codec.specs.declared.cipher.Cipher.{Cipher}
use Rattle.rx_codec.specs.Kept.{AreItemsKept}
use Rattle.rx_client.specs.Encrypt.{line_digits, first_width}
use Rattle.rx_client.specs.Decrypt.{named_line, item_lines, kept_lines, first_damage}
use Rattle.rx_server.specs.Inputs.{items_of, first_fault, digits_found}
use Rattle.rx_net.specs.Numbers.{outs}
use Rattle.rx_tool.specs.Encrypt.{encryption}
use Rattle.rx_tool.specs.Run.{input_blocks, run_cipher, output_digits}

-- value lines that are encrypted into one file, and the two seeds of that file
pub record Batch : Type 0 where
  pub mask_seed : List ℕ
  pub noise_seed : List ℕ
  pub lines : List ValueLine

abbrev pub batch_of : List ℕ → List ℕ → List ValueLine → Batch
batch_of mask noise values = record { mask_seed = mask; noise_seed = noise; lines = values }

-- the ciphertexts of some batches under a client's key
abbrev pub batch_ciphers : Client → List Batch → List Cipher
batch_ciphers c batches = map (λ (b : Batch). encryption c b.mask_seed b.noise_seed b.lines) batches

-- the lines of some batches, in order, and the digits of each
abbrev pub batch_lines : List Batch → List ValueLine
batch_lines batches = flat_map (λ (b : Batch). b.lines) batches

abbrev pub batch_digits : ℕ → List Batch → List (List ℕ)
batch_digits message_bits batches = flat_map (λ (b : Batch). map (line_digits message_bits) b.lines) batches

-- the ciphertext of a net's outputs over some batches, under the server key that the client's seed and a mask seed make
abbrev pub run_over : Client → List ℕ → Net → List Batch → Cipher
run_over c server_mask net batches = run_cipher (server_key c.params c.seed server_mask) net (batch_ciphers c batches)

-- the blocks of all cells of that run, those of the inputs first
abbrev pub cells_over : Client → List ℕ → Net → List Batch → List Block
cells_over c server_mask net batches =
    evaluated (server_key c.params c.seed server_mask) net (input_blocks net (batch_ciphers c batches))

-- the values of all cells, for the digits of the inputs
abbrev pub values_over : Client → Net → List Batch → List ℕ
values_over c net batches =
    values_after (digits_found net.inputs (items_of (batch_ciphers c batches)) (batch_digits c.params.message_bits batches)) net.jobs

-- the digits of the outputs, for the digits of the inputs
abbrev pub digits_over : Client → Net → List Batch → List (List ℕ)
digits_over c net batches =
    output_digits net (digits_found net.inputs (items_of (batch_ciphers c batches)) (batch_digits c.params.message_bits batches))

-- what the client decrypts of it
abbrev pub decrypted_lines : Client → List ℕ → Net → List Batch → List ℕ
decrypted_lines c server_mask net batches =
    item_lines c.params (large_key c.params c.seed) (run_over c server_mask net batches).items

-- ---- the same without a key

-- the digits of the inputs of a net, each those of the line of its name
abbrev pub plain_digits : ℕ → List NetInput → List ValueLine → List ℕ
plain_digits message_bits inputs lines =
    flat_map (λ (i : NetInput). flat_map (line_digits message_bits) (filter (λ (v : ValueLine). bytes_eq v.name i.name) lines)) inputs

-- a line for each name with the number at its place
abbrev pub lines_of : List (List ℕ) → List ℕ → List ℕ
lines_of [] numbers = []
lines_of (name ∷ names) [] = []
lines_of (name ∷ names) (number ∷ numbers) = named_line name number ++ lines_of names numbers

-- the lines of a net's outputs over some value lines: their names, and the numbers that the net gives
abbrev pub plain_lines : Net → List ValueLine → List ℕ
plain_lines net lines =
    lines_of (map (λ (o : NetOutput). o.name) net.outputs)
    (outs net (values_after (plain_digits net.space net.inputs lines) net.jobs))

-- ---- the laws

-- lines that `encrypt` takes
pub record IsBatch (c : Client) (b : Batch) : Type 0 where
  pub values : AreValues b.lines
  pub widths : first_width c.params.message_bits b.lines ≡ None

-- the client's set is accepted, the net is one of its message bits, and the batches give the inputs as the net wants them
pub record GoTogether (c : Client) (net : Net) (batches : List Batch) : Type 0 where
  pub accepted : Accepts c.params
  pub each : AllByRecursion (IsBatch c) batches
  pub is_net : IsNet net
  pub space : net.space ≡ c.params.message_bits
  pub found : first_fault net.inputs (items_of (batch_ciphers c batches)) ≡ None

-- Whatever the seeds are: each cell of a run keeps the value that the net gives it, the outputs that a server gives keep the digits
-- of the net's outputs, none of their blocks is damaged, and the client decrypts the numbers that the net gives for the plain lines.
pub record WholeWayLaws : Type 0 where
  pub cells : (c : Client) (server_mask : List ℕ) (net : Net) (batches : List Batch) → GoTogether c net batches →
      AreKept c.params (large_key c.params c.seed) (cells_over c server_mask net batches) (values_over c net batches)
  pub kept : (c : Client) (server_mask : List ℕ) (net : Net) (batches : List Batch) → GoTogether c net batches →
      AreItemsKept c.params (large_key c.params c.seed) (run_over c server_mask net batches).items (digits_over c net batches)
  pub undamaged : (c : Client) (server_mask : List ℕ) (net : Net) (batches : List Batch) → GoTogether c net batches →
      first_damage c.params (large_key c.params c.seed) (run_over c server_mask net batches).items ≡ None
  pub lines : (c : Client) (server_mask : List ℕ) (net : Net) (batches : List Batch) → GoTogether c net batches →
      decrypted_lines c server_mask net batches
      ≡ kept_lines c.params.message_bits (run_over c server_mask net batches).items (digits_over c net batches)
  pub plain : (c : Client) (server_mask : List ℕ) (net : Net) (batches : List Batch) → GoTogether c net batches →
      decrypted_lines c server_mask net batches ≡ plain_lines net (batch_lines batches)
