-- From value lines through a server to the lines that are decrypted.
use Rattle.std.proofs.Common.{◌≡◌, ℕ, List, [], ◌∷◌, length, map, None, ◌∙◌}
use Rattle.std.specs.List.{AllByRecursion}
use Rattle.rx_params.specs.Acceptance.{Accepts, FieldsInRange}
use Rattle.rx_lwe.specs.Secret.{small_key, large_key}
use Rattle.rx_net.specs.declared.net.Net.{Net}
use Rattle.rx_net.specs.Cells.{input_cells}
use Rattle.rx_net.specs.Legal.{Legal}
use Rattle.rx_boot.specs.BootKeys.{boot_size}
use Rattle.rx_boot.specs.ServerKeys.{ServerWords, server_key}
use Rattle.rx_boot.specs.Laws.{ServerKeyLaws}
use Rattle.rx_block.specs.declared.block.Block.{Block}
use Rattle.rx_block.specs.Keeps.{AreKept}
use Rattle.rx_crew.specs.Evaluation.{evaluated}
use Rattle.rx_crew.specs.Laws.{KeepingLaws}
use Rattle.rx_codec.specs.declared.client.Client.{Client}
use Rattle.rx_codec.specs.declared.cipher.Item.{Item}
use Rattle.rx_codec.specs.declared.cipher.Cipher.{Cipher}
use Rattle.rx_codec.specs.Kept.{AreItemsKept}
use Rattle.rx_client.specs.Encrypt.{line_digits}
use Rattle.rx_client.specs.Decrypt.{kept_lines, first_damage}
use Rattle.rx_client.specs.Laws.{ReadingLaws, EncryptingLaws}
use Rattle.rx_client.proofs.Encrypted.{values_fit, values_params}
use Rattle.rx_server.specs.Inputs.{items_of, first_fault, digits_found}
use Rattle.rx_server.specs.Laws.{AreCiphersOf, AreCellBlocks, ServerLaws}
use Rattle.rx_tool.specs.Encrypt.{encryption}
use Rattle.rx_tool.specs.Run.{input_blocks, KeepsItems}
use Rattle.rx_tool.specs.WholeWay.{Batch, batch_ciphers, batch_lines, batch_digits, cells_over, values_over, run_over, digits_over, decrypted_lines, plain_lines, IsBatch, GoTogether, WholeWayLaws}
use Rattle.rx_tool.proofs.EvaluatedBlocks.{are_inputs}
use Rattle.rx_tool.proofs.NetRuns.{cells_keep_run, keeps_items}
use Rattle.rx_tool.proofs.PlainRuns.{run_plain}

-- the laws of the crates below
pub record LawsBelow : Type 0 where
  pub keys : ServerKeyLaws
  pub encrypting : EncryptingLaws
  pub keeping : KeepingLaws
  pub server : ServerLaws
  pub reading : ReadingLaws

-- ---- a run under any server key of the set
run_keeps : LawsBelow → (k : ServerWords) (net : Net) (ciphers : List Cipher) → Accepts k.params → length k.boot ≡ boot_size k.params →
    Legal net → net.space ≡ k.params.message_bits → AreCiphersOf k.params ciphers → first_fault net.inputs (items_of ciphers) ≡ None →
    KeepsItems k net ciphers
run_keeps laws k net ciphers accepted size legal space are none =
    let found : List Block = input_blocks net ciphers in
    let fit : AreCellBlocks k.params net (input_cells net.space net.inputs) found = laws.server.inputs k.params net ciphers space are none in
    keeps_items k net ciphers laws.server
    (cells_keep_run k net ciphers laws.server legal fit
    (laws.keeping.cells k net found accepted size legal space (are_inputs k.params net found fit)))

-- ---- the ciphertexts of the batches
batches_fit : LawsBelow → (c : Client) (batches : List Batch) → Accepts c.params → AllByRecursion (IsBatch c) batches →
    AreCiphersOf c.params (batch_ciphers c batches)
batches_fit laws c [] accepted each = tt
batches_fit laws c (b ∷ batches) accepted each =
    let key : List ℕ = large_key c.params c.seed in (
      (
        values_params c.params key b.mask_seed b.noise_seed b.lines,
        values_fit c.params key b.mask_seed b.noise_seed b.lines accepted (laws.keys.secret c.params c.seed accepted.fields).large_size
            each.0.values each.0.widths,
      ),
      batches_fit laws c batches accepted each.1,
    )

batches_kept : LawsBelow → (c : Client) (batches : List Batch) → FieldsInRange c.params → AllByRecursion (IsBatch c) batches →
    AreItemsKept c.params (large_key c.params c.seed) (items_of (batch_ciphers c batches)) (batch_digits c.params.message_bits batches)
batches_kept laws c [] fields each = tt
batches_kept laws c (b ∷ batches) fields each =
    let key : List ℕ = large_key c.params c.seed in
    let m : ℕ = c.params.message_bits in
    laws.server.joined_kept c.params key (encryption c b.mask_seed b.noise_seed b.lines).items (items_of (batch_ciphers c batches))
    (map (line_digits m) b.lines) (batch_digits m batches)
    (laws.encrypting.kept c.params key b.mask_seed b.noise_seed b.lines fields each.0.values)
    (batches_kept laws c batches fields each.1)

-- ---- the whole way
way_kept : LawsBelow → (c : Client) (server_mask : List ℕ) (net : Net) (batches : List Batch) → GoTogether c net batches →
    AreItemsKept c.params (large_key c.params c.seed) (run_over c server_mask net batches).items (digits_over c net batches)
unfolding server_key
way_kept laws c server_mask net batches together =
    let fields : FieldsInRange c.params = together.accepted.fields in
    run_keeps laws (server_key c.params c.seed server_mask) net (batch_ciphers c batches) together.accepted
    (laws.keys.boot_words c.params c.seed server_mask fields) together.is_net.legal together.space
    (batches_fit laws c batches together.accepted together.each) together.found
    (small_key c.params c.seed) (large_key c.params c.seed) (batch_digits c.params.message_bits batches)
    (laws.keys.secret c.params c.seed fields) (laws.keys.near c.params c.seed server_mask fields)
    (batches_kept laws c batches fields together.each)

way_cells : LawsBelow → (c : Client) (server_mask : List ℕ) (net : Net) (batches : List Batch) → GoTogether c net batches →
    AreKept c.params (large_key c.params c.seed) (cells_over c server_mask net batches) (values_over c net batches)
unfolding server_key
way_cells laws c server_mask net batches together =
    let fields : FieldsInRange c.params = together.accepted.fields in
    let large : List ℕ = large_key c.params c.seed in
    let items : List Item = items_of (batch_ciphers c batches) in
    let digits : List (List ℕ) = batch_digits c.params.message_bits batches in
    let found : List Block = input_blocks net (batch_ciphers c batches) in
    let fit : AreCellBlocks c.params net (input_cells net.space net.inputs) found =
    laws.server.inputs c.params net (batch_ciphers c batches) together.space (batches_fit laws c batches together.accepted together.each) together.found in
    laws.keeping.cells (server_key c.params c.seed server_mask) net found together.accepted
    (laws.keys.boot_words c.params c.seed server_mask fields) together.is_net.legal together.space (are_inputs c.params net found fit)
    (small_key c.params c.seed) large (digits_found net.inputs items digits)
    (laws.keys.secret c.params c.seed fields) (laws.keys.near c.params c.seed server_mask fields)
    (laws.server.found_kept c.params large net.inputs items digits (batches_kept laws c batches fields together.each))

way_undamaged : LawsBelow → (c : Client) (server_mask : List ℕ) (net : Net) (batches : List Batch) → GoTogether c net batches →
    first_damage c.params (large_key c.params c.seed) (run_over c server_mask net batches).items ≡ None
way_undamaged laws c server_mask net batches together =
    laws.reading.undamaged c.params (large_key c.params c.seed) (run_over c server_mask net batches).items (digits_over c net batches)
    together.accepted (way_kept laws c server_mask net batches together)

way_lines : LawsBelow → (c : Client) (server_mask : List ℕ) (net : Net) (batches : List Batch) → GoTogether c net batches →
    decrypted_lines c server_mask net batches
    ≡ kept_lines c.params.message_bits (run_over c server_mask net batches).items (digits_over c net batches)
way_lines laws c server_mask net batches together =
    laws.reading.lines c.params (large_key c.params c.seed) (run_over c server_mask net batches).items (digits_over c net batches)
    together.accepted (way_kept laws c server_mask net batches together)

way_plain : LawsBelow → (c : Client) (server_mask : List ℕ) (net : Net) (batches : List Batch) → GoTogether c net batches →
    decrypted_lines c server_mask net batches ≡ plain_lines net (batch_lines batches)
way_plain laws c server_mask net batches together =
    way_lines laws c server_mask net batches together
    ∙ run_plain c net (evaluated (server_key c.params c.seed server_mask) net (input_blocks net (batch_ciphers c batches))) batches together.space

pub whole_way : LawsBelow → WholeWayLaws
whole_way laws =
    record { cells = way_cells laws; kept = way_kept laws; undamaged = way_undamaged laws; lines = way_lines laws; plain = way_plain laws }
