-- The digits and lines of a run, found among ciphertexts and among plain value lines.
use Rattle.std.proofs.Common.{◌≡◌, ℕ, ◌+◌, true, false, List, [], ◌∷◌, ◌++◌, map, refl, sym, ap, ◌∙◌, cond, append_assoc}
use Rattle.std.specs.List.{flat_map, filter}
use Rattle.std.specs.Str.{bytes_eq}
use Rattle.rx_params.specs.declared.params.Params.{Params}
use Rattle.rx_net.specs.declared.net.NetInput.{NetInput}
use Rattle.rx_net.specs.declared.net.NetOutput.{NetOutput}
use Rattle.rx_net.specs.declared.net.Net.{Net}
use Rattle.rx_net.specs.Cells.{values_after}
use Rattle.rx_lwe.specs.Secret.{large_key}
use Rattle.rx_block.specs.declared.block.Block.{Block}
use Rattle.rx_circuit.specs.declared.values.ValueLine.{ValueLine}
use Rattle.rx_codec.specs.declared.client.Client.{Client}
use Rattle.rx_codec.specs.declared.cipher.Item.{Item}
use Rattle.rx_client.specs.Encrypt.{blocks_in, line_digits, items_from, encrypted_values}
use Rattle.rx_client.specs.Decrypt.{named_line, kept_lines}
use Rattle.rx_server.specs.Inputs.{items_of, digits_named, digits_found}
use Rattle.rx_net.specs.Numbers.{number_of, values_of}
use Rattle.rx_server.specs.Outputs.{output_item}
use Rattle.rx_tool.specs.WholeWay.{Batch, batch_ciphers, batch_lines, batch_digits, digits_over, plain_digits, lines_of, plain_lines}

-- the digits of the lines of a name
abbrev line_found : ℕ → List ℕ → List ValueLine → List ℕ
line_found m name lines = flat_map (line_digits m) (filter (λ (v : ValueLine). bytes_eq v.name name) lines)

-- ---- the inputs

-- those of the items of a batch, before those of other items
from_items : (p : Params) (key mask noise name : List ℕ) (number : ℕ) (lines : List ValueLine) (items : List Item) (lists : List (List ℕ)) →
    digits_named name (items_from p key mask noise number lines ++ items) (map (line_digits p.message_bits) lines ++ lists)
    ≡ line_found p.message_bits name lines ++ digits_named name items lists
from_items p key mask noise name number [] items lists = refl
from_items p key mask noise name number (v ∷ lines) items lists =
    let m : ℕ = p.message_bits in
    let digits : List ℕ = line_digits m v in
    let later : List ℕ =
    digits_named name (items_from p key mask noise (number + blocks_in p v) lines ++ items) (map (line_digits m) lines ++ lists) in
    let found : List ValueLine = filter (λ (w : ValueLine). bytes_eq w.name name) lines in
    let others : List ℕ = digits_named name items lists in
    let rest : later ≡ flat_map (line_digits m) found ++ others = from_items p key mask noise name (number + blocks_in p v) lines items lists in
    elim (bytes_eq v.name name) as (λ b. cond b (digits ++ later) later ≡ flat_map (line_digits m) (cond b (v ∷ found) found) ++ others) [
      | true ↦ ap (λ ds. digits ++ ds) rest ∙ sym (append_assoc digits (flat_map (line_digits m) found) others)
      | false ↦ rest
    ]

from_batch : (p : Params) (key mask noise name : List ℕ) (lines : List ValueLine) (items : List Item) (lists : List (List ℕ)) →
    digits_named name ((encrypted_values p key mask noise lines).items ++ items) (map (line_digits p.message_bits) lines ++ lists)
    ≡ line_found p.message_bits name lines ++ digits_named name items lists
unfolding encrypted_values
from_batch p key mask noise name lines items lists = from_items p key mask noise name 0 lines items lists

-- the lines of a name in two lists
found_joined : (m : ℕ) (name : List ℕ) (lines more : List ValueLine) →
    line_found m name (lines ++ more) ≡ line_found m name lines ++ line_found m name more
found_joined m name [] more = refl
found_joined m name (v ∷ lines) more =
    let same : ValueLine → List ℕ = line_digits m in
    let all : List ValueLine = filter (λ (w : ValueLine). bytes_eq w.name name) (lines ++ more) in
    let found : List ValueLine = filter (λ (w : ValueLine). bytes_eq w.name name) lines in
    let others : List ℕ = line_found m name more in
    let rest : flat_map same all ≡ flat_map same found ++ others = found_joined m name lines more in
    elim (bytes_eq v.name name) as (λ b. flat_map same (cond b (v ∷ all) all) ≡ flat_map same (cond b (v ∷ found) found) ++ others) [
      | true ↦ ap (λ ds. same v ++ ds) rest ∙ sym (append_assoc (same v) (flat_map same found) others)
      | false ↦ rest
    ]

from_batches : (c : Client) (name : List ℕ) (batches : List Batch) →
    digits_named name (items_of (batch_ciphers c batches)) (batch_digits c.params.message_bits batches)
    ≡ line_found c.params.message_bits name (batch_lines batches)
from_batches c name [] = refl
from_batches c name (b ∷ batches) =
    let m : ℕ = c.params.message_bits in
    from_batch c.params (large_key c.params c.seed) b.mask_seed b.noise_seed name b.lines (items_of (batch_ciphers c batches)) (batch_digits m batches)
    ∙ ap (λ ds. line_found m name b.lines ++ ds) (from_batches c name batches)
    ∙ sym (found_joined m name b.lines (batch_lines batches))

pub inputs_plain : (c : Client) (inputs : List NetInput) (batches : List Batch) →
    digits_found inputs (items_of (batch_ciphers c batches)) (batch_digits c.params.message_bits batches)
    ≡ plain_digits c.params.message_bits inputs (batch_lines batches)
inputs_plain c [] batches = refl
inputs_plain c (i ∷ inputs) batches =
    let m : ℕ = c.params.message_bits in
    ap (λ ds. ds ++ digits_found inputs (items_of (batch_ciphers c batches)) (batch_digits m batches)) (from_batches c i.name batches)
    ∙ ap (λ ds. line_found m i.name (batch_lines batches) ++ ds) (inputs_plain c inputs batches)

-- ---- the outputs

outputs_plain : (m : ℕ) (cells : List Block) (values : List ℕ) (outputs : List NetOutput) →
    kept_lines m (map (output_item cells) outputs) (map (values_of values) outputs)
    ≡ lines_of (map (λ (o : NetOutput). o.name) outputs) (map (λ (o : NetOutput). number_of m (values_of values o)) outputs)
outputs_plain m cells values [] = refl
outputs_plain m cells values (o ∷ outputs) =
    ap (λ text. named_line o.name (number_of m (values_of values o)) ++ text) (outputs_plain m cells values outputs)

-- the lines that are kept over the cells of a run are the plain ones
pub run_plain : (c : Client) (net : Net) (cells : List Block) (batches : List Batch) → net.space ≡ c.params.message_bits →
    kept_lines c.params.message_bits (map (output_item cells) net.outputs) (digits_over c net batches)
    ≡ plain_lines net (batch_lines batches)
run_plain c net cells batches space =
    let m : ℕ = c.params.message_bits in
    let lines : List ValueLine = batch_lines batches in
    let digits : List ℕ = digits_found net.inputs (items_of (batch_ciphers c batches)) (batch_digits m batches) in
    let lines_with : ℕ → List ℕ → List ℕ = λ k ds. lines_of (map (λ (o : NetOutput). o.name) net.outputs)
    (map (λ (o : NetOutput). number_of k (values_of (values_after ds net.jobs) o)) net.outputs) in
    outputs_plain m cells (values_after digits net.jobs) net.outputs
    ∙ ap (lines_with m) (inputs_plain c net.inputs batches)
    ∙ ap (λ k. lines_with k (plain_digits k net.inputs lines)) (sym space)
