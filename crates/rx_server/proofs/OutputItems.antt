-- The items of the outputs of a net.
use Rattle.std.proofs.Common.{◌≡◌, ℕ, suc, ◌+◌, ◌-◌, ◌<◌, ◌≤◌, false, List, [], ◌∷◌, ◌++◌, length, get_or, map, take, drop, refl, sym, ◌∙◌, ap, subst, append_assoc, arith}
use Rattle.std.specs.Prelude.{◌&&◌, ◌==◌, nat_le, nat_lt, not, IsTrue}
use Rattle.std.specs.List.{AllByRecursion}
use Rattle.std.specs.Str.{bytes_eq}
use Rattle.std.proofs.lemmas.List.{length-map, map-append, take_at, drop_at}
use Rattle.std.proofs.lemmas.List.Folds.{list_any-append}
use Rattle.std.proofs.lemmas.Bool.{leb-true, ltb-true, eqb-true, and_parts, or_parts, not-true}
use Rattle.rx_text.specs.Names.{is_name}
use Rattle.rx_params.specs.declared.params.Params.{Params}
use Rattle.rx_params.specs.declared.kind.Kind.{Kind}
use Rattle.rx_params.specs.Acceptance.{Accepts}
use Rattle.rx_params.specs.Kinds.{greatest, block_count, is_form}
use Rattle.rx_net.specs.declared.net.NetOutput.{NetOutput}
use Rattle.rx_net.specs.declared.net.Net.{Net}
use Rattle.rx_net.specs.Cells.{cell_count, degree, noise}
use Rattle.rx_net.specs.Numbers.{values_of}
use Rattle.rx_net.specs.Legal.{InTurn, Legal, is_output, are_cells, names_output}
use Rattle.rx_net.proofs.Fits.{cells_below}
use Rattle.rx_block.specs.declared.block.Block.{Block}
use Rattle.rx_block.specs.Combine.{no_block}
use Rattle.rx_block.specs.Keeps.{AreKept}
use Rattle.rx_block.specs.Outputs.{numbered_blocks, numbers_of, output_blocks}
use Rattle.rx_block.proofs.KeptLists.{numbered_kept}
use Rattle.rx_codec.specs.CipherFile.{has_item, IsBlock, IsItem, ItemsOnce, IsCipher}
use Rattle.rx_codec.specs.Kept.{AreItemsKept}
use Rattle.rx_codec.proofs.Ciphers.{eq_symm}
use Rattle.rx_server.specs.Outputs.{output_item, items_over, outputs_cipher}
use Rattle.rx_server.specs.Laws.{IsBlockWithin, AreCellBlocks}

-- ---- blocks shared out among the outputs

-- the blocks of the first output, and those of the others
first_output : (cells : List Block) (o : NetOutput) (os : List NetOutput) →
    output_blocks cells (o ∷ os) ≡ numbered_blocks cells o.cells ++ output_blocks cells os
first_output cells o os = map-append (λ (c : ℕ). get_or cells c no_block) o.cells (numbers_of os)

pub shared_out : (cells : List Block) (os : List NetOutput) → items_over os (output_blocks cells os) ≡ map (output_item cells) os
shared_out cells [] = refl
shared_out cells (o ∷ os) =
    let first : List Block = numbered_blocks cells o.cells in
    let others : List Block = output_blocks cells os in
    let size : length first ≡ length o.cells = length-map o.cells (λ (c : ℕ). get_or cells c no_block) in
    rw (first_output cells o os, take_at first others (length o.cells) size, drop_at first others (length o.cells) size)
    (ap (λ items. output_item cells o ∷ items) (shared_out cells os))

-- one block more is taken of those that are left
pub taken_on : (n i : ℕ) (taken left rest : List Block) (b : Block) → i < n → left ≡ b ∷ rest → (taken ++ b ∷ []) ++ take (n - (i + 1)) rest ≡ taken ++ take (n - i) left
taken_on n i taken left rest b low e =
    let more : n - i ≡ suc (n - (i + 1)) = omega arith in
    rw (e, more) (append_assoc taken (b ∷ []) (take (n - (i + 1)) rest))

pub left_over : (n i : ℕ) (left rest : List Block) (b : Block) → i < n → left ≡ b ∷ rest → drop (n - (i + 1)) rest ≡ drop (n - i) left
left_over n i left rest b low e =
    let more : n - i ≡ suc (n - (i + 1)) = omega arith in
    rw (e, more) refl

-- ---- names that stand once

-- what an output says that is lawful after those before it
record IsOutput (space count : ℕ) (degree : ℕ → ℕ) (before : List NetOutput) (o : NetOutput) : Type 0 where
  form : IsTrue (is_form space o.kind o.bits)
  size : length o.cells ≡ block_count o.kind space o.bits
  new : names_output o.name before ≡ false
  cells : IsTrue (are_cells count degree (greatest o.kind space) o.cells)

output_is : (space count : ℕ) (degree : ℕ → ℕ) (before : List NetOutput) (o : NetOutput) → IsTrue (is_output space count degree before o) → IsOutput space count degree before o
output_is space count degree before o h =
    let a = and_parts (is_form space o.kind o.bits)
    ((length o.cells == block_count o.kind space o.bits) && (not (names_output o.name before) && are_cells count degree (greatest o.kind space) o.cells)) h in
    let b = and_parts (length o.cells == block_count o.kind space o.bits)
    (not (names_output o.name before) && are_cells count degree (greatest o.kind space) o.cells) a.1 in
    let c = and_parts (not (names_output o.name before)) (are_cells count degree (greatest o.kind space) o.cells) b.1 in
    record { form = a.0; size = eqb-true (length o.cells) (block_count o.kind space o.bits) b.0; new = not-true (names_output o.name before) c.0; cells = c.1 }

-- an output that stands among those before has a name that no output after them has
abbrev StandsIn : NetOutput → List NetOutput → Type 0
StandsIn o before = (name : List ℕ) → names_output name before ≡ false → bytes_eq o.name name ≡ false

stands_last : (o : NetOutput) (before : List NetOutput) → StandsIn o (before ++ o ∷ [])
stands_last o before name e =
    let parts = or_parts (names_output name before) (names_output name (o ∷ [])) (sym (list_any-append (λ (q : NetOutput). bytes_eq q.name name) before (o ∷ [])) ∙ e) in
    (or_parts (bytes_eq o.name name) false parts.1).0

stands_still : (o : NetOutput) (before : List NetOutput) (more : NetOutput) → StandsIn o before → StandsIn o (before ++ more ∷ [])
stands_still o before more stands name e =
    let parts = or_parts (names_output name before) (names_output name (more ∷ [])) (sym (list_any-append (λ (q : NetOutput). bytes_eq q.name name) before (more ∷ [])) ∙ e) in
    stands name parts.0

abbrev AreOutputs : ℕ → ℕ → (ℕ → ℕ) → List NetOutput → List NetOutput → Type 0
AreOutputs space count degree before os = InTurn (λ before o. IsTrue (is_output space count degree before o)) before os

apart : (cells : List Block) (space count : ℕ) (degree : ℕ → ℕ) (o : NetOutput) (before os : List NetOutput) → StandsIn o before → AreOutputs space count degree before os
    → has_item o.name (map (output_item cells) os) ≡ false
apart cells space count degree o before [] stands are = refl
apart cells space count degree o before (q ∷ os) stands are =
    let is : IsOutput space count degree before q = output_is space count degree before q are.0 in
    let differs : bytes_eq q.name o.name ≡ false = eq_symm q.name o.name ∙ stands q.name is.new in
    let rest : has_item o.name (map (output_item cells) os) ≡ false =
    apart cells space count degree o (before ++ q ∷ []) os (stands_still o before q stands) are.1 in
    rw (differs, rest) refl

once : (cells : List Block) (space count : ℕ) (degree : ℕ → ℕ) (before os : List NetOutput) → AreOutputs space count degree before os
    → ItemsOnce (map (output_item cells) os)
once cells space count degree before [] are = tt
once cells space count degree before (o ∷ os) are = (
  apart cells space count degree o (before ++ o ∷ []) os (stands_last o before) are.1,
  once cells space count degree (before ++ o ∷ []) os are.1,
)

-- ---- the items

cells_fit : (p : Params) (net : Net) (kind : Kind) (cells : List ℕ) (blocks : List Block) → AreCellBlocks p net (cell_count net) blocks
    → IsTrue (are_cells (cell_count net) (degree net) (greatest kind p.message_bits) cells)
    → AllByRecursion (IsBlock p kind) (map (λ c. get_or blocks c no_block) cells)
cells_fit p net kind [] blocks are h = tt
cells_fit p net kind (c ∷ cells) blocks are h =
    let count : ℕ = cell_count net in
    let most : ℕ = greatest kind p.message_bits in
    let a = and_parts (nat_lt c (cell_count net) && nat_le (degree net c) (greatest kind p.message_bits))
    (are_cells (cell_count net) (degree net) (greatest kind p.message_bits) cells) h in
    let b = and_parts (nat_lt c (cell_count net)) (nat_le (degree net c) (greatest kind p.message_bits)) a.0 in
    let there : c < cell_count net = ltb-true c (cell_count net) b.0 in
    let low : degree net c ≤ greatest kind p.message_bits = leb-true (degree net c) (greatest kind p.message_bits) b.1 in
    let block : IsBlockWithin p (degree net c) (noise net c) (get_or blocks c no_block) = are.each c (omega (arith, there, are.count)) in (
      record { degree = omega (arith, block.degree, low); noise_low = block.noise_low; noise_high = block.noise_high; size = block.size; words = block.words },
      cells_fit p net kind cells blocks are a.1,
    )

items_fit : (p : Params) (net : Net) (blocks : List Block) (before os : List NetOutput) → net.space ≡ p.message_bits → AreCellBlocks p net (cell_count net) blocks
    → AllByRecursion (λ (o : NetOutput). IsTrue (is_name o.name)) os → AreOutputs net.space (cell_count net) (degree net) before os
    → AllByRecursion (IsItem p) (map (output_item blocks) os)
items_fit p net blocks before [] s are names outputs = tt
items_fit p net blocks before (o ∷ os) s are names outputs =
    let is : IsOutput net.space (cell_count net) (degree net) before o = output_is net.space (cell_count net) (degree net) before o outputs.0 in (
      record {
        name = names.0;
        form = subst (λ (m : ℕ). IsTrue (is_form m o.kind o.bits)) s is.form;
        count = length-map o.cells (λ (c : ℕ). get_or blocks c no_block) ∙ is.size ∙ ap (λ m. block_count o.kind m o.bits) s;
        blocks = cells_fit p net o.kind o.cells blocks are
            (subst (λ (m : ℕ). IsTrue (are_cells (cell_count net) (degree net) (greatest o.kind m) o.cells)) s is.cells);
      },
      items_fit p net blocks (before ++ o ∷ []) os s are names.1 outputs.1,
    )

pub outputs_fit : (p : Params) (net : Net) (blocks : List Block) → Accepts p → net.space ≡ p.message_bits → Legal net
    → AllByRecursion (λ (o : NetOutput). IsTrue (is_name o.name)) net.outputs → AreCellBlocks p net (cell_count net) blocks
    → IsCipher (outputs_cipher p blocks net.outputs)
outputs_fit p net blocks accepted s legal names are = record {
  accepted = accepted;
  count = omega (arith, legal.limits.few_outputs, length-map net.outputs (output_item blocks));
  items = items_fit p net blocks [] net.outputs s are names legal.outputs;
  once = once blocks net.space (cell_count net) (degree net) [] net.outputs legal.outputs;
}

-- ---- what the items keep

output_keeps : (p : Params) (key : List ℕ) (blocks : List Block) (values : List ℕ) (degree : ℕ → ℕ) (most : ℕ) (o : NetOutput)
    → AreKept p key blocks values → IsTrue (are_cells (length blocks) degree most o.cells)
    → AreKept p key (numbered_blocks blocks o.cells) (values_of values o)
output_keeps p key blocks values degree most o are h = numbered_kept p key blocks values o.cells are (cells_below (length blocks) degree most o.cells h)

items_keep : (p : Params) (space : ℕ) (key : List ℕ) (blocks : List Block) (values : List ℕ) (degree : ℕ → ℕ) (before os : List NetOutput)
    → AreKept p key blocks values → AreOutputs space (length blocks) degree before os
    → AreItemsKept p key (map (output_item blocks) os) (map (values_of values) os)
items_keep p space key blocks values degree before [] are outputs = tt
items_keep p space key blocks values degree before (o ∷ os) are outputs =
    let is : IsOutput space (length blocks) degree before o = output_is space (length blocks) degree before o outputs.0 in (
      output_keeps p key blocks values degree (greatest o.kind space) o are is.cells,
      items_keep p space key blocks values degree (before ++ o ∷ []) os are outputs.1,
    )

-- each output's item keeps the values of its cells
pub outputs_keep : (p : Params) (net : Net) (key : List ℕ) (blocks : List Block) (values : List ℕ) → Legal net → length blocks ≡ cell_count net
    → AreKept p key blocks values → AreItemsKept p key (map (output_item blocks) net.outputs) (map (values_of values) net.outputs)
outputs_keep p net key blocks values legal size are =
    items_keep p net.space key blocks values (degree net) [] net.outputs are
    (subst (λ count. AreOutputs net.space count (degree net) [] net.outputs) (sym size) legal.outputs)
