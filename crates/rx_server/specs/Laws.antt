-- What is known of the inputs that were found and of the outputs that are given.
use Rattle.std.specs.Prelude.{ℕ, ◌+◌, ◌^◌, ◌≡◌, ◌<◌, ◌≤◌, List, ◌++◌, length, map, get_or, None, IsTrue, EachIndex, slice_index}
use Rattle.std.specs.List.{AllByRecursion}
use Rattle.rx_text.specs.Names.{is_name}
use Rattle.rx_params.specs.declared.params.Params.{Params}
use Rattle.rx_params.specs.Acceptance.{Accepts}
use Rattle.rx_params.specs.Derived.{large_dim, noise_limit}
use Rattle.rx_net.specs.declared.net.NetInput.{NetInput}
use Rattle.rx_net.specs.declared.net.NetOutput.{NetOutput}
use Rattle.rx_net.specs.declared.net.Net.{Net}
use Rattle.rx_net.specs.Cells.{input_cells, cell_count, degree, noise}
use Rattle.rx_net.specs.Numbers.{values_of}
use Rattle.rx_net.specs.Legal.{Legal}
use Rattle.rx_block.specs.declared.block.Block.{Block}
use Rattle.rx_block.specs.Combine.{no_block}
use Rattle.rx_block.specs.Keeps.{AreKept}
use Rattle.rx_codec.specs.declared.cipher.Item.{Item}
use Rattle.rx_codec.specs.declared.cipher.Cipher.{Cipher}
use Rattle.rx_codec.specs.CipherFile.{IsCipher}
use Rattle.rx_codec.specs.Kept.{AreItemsKept}
use Rattle.rx_server.specs.Inputs.{items_of, first_fault, blocks_found, digits_found}
use Rattle.rx_server.specs.Outputs.{output_item, outputs_cipher}

-- Ciphertext files of one set.
abbrev pub AreCiphersOf : Params → List Cipher → Type 0
AreCiphersOf p ciphers = AllByRecursion (λ (c : Cipher). (c.params ≡ p) × IsCipher c) ciphers

-- A block of the set whose tags are at most these.
pub record IsBlockWithin (p : Params) (most_degree most_noise : ℕ) (b : Block) : Type 0 where
  pub size : length b.words ≡ large_dim p + 1
  pub words : EachIndex b.words (λ i. slice_index b.words i < 2 ^ 64)
  pub degree : b.degree ≤ most_degree
  pub noise_low : 1 ≤ b.noise
  pub noise_high : b.noise ≤ noise_limit p.message_bits
  pub noise : b.noise ≤ most_noise

-- A block for each of the first cells of a net, so many, whose tags are at most those of its cell.
pub record AreCellBlocks (p : Params) (net : Net) (cells : ℕ) (blocks : List Block) : Type 0 where
  pub count : length blocks ≡ cells
  pub each : (c : ℕ) → c < length blocks → IsBlockWithin p (degree net c) (noise net c) (get_or blocks c no_block)

pub record ServerLaws : Type 0 where
  -- the blocks that were found in files of the set are blocks for the input cells
  pub inputs : (p : Params) (net : Net) (ciphers : List Cipher) → net.space ≡ p.message_bits → AreCiphersOf p ciphers →
      first_fault net.inputs (items_of ciphers) ≡ None →
      AreCellBlocks p net (input_cells net.space net.inputs) (blocks_found net.inputs (items_of ciphers))
  -- the outputs of a legal net over blocks for all its cells are a ciphertext that has a file
  pub outputs : (p : Params) (net : Net) (blocks : List Block) → Accepts p → net.space ≡ p.message_bits → Legal net →
      AllByRecursion (λ (o : NetOutput). IsTrue (is_name o.name)) net.outputs → AreCellBlocks p net (cell_count net) blocks →
      IsCipher (outputs_cipher p blocks net.outputs)
  -- where the blocks of all cells keep values, the items of the outputs keep those of their cells
  pub kept : (p : Params) (net : Net) (key : List ℕ) (blocks : List Block) (values : List ℕ) → Legal net →
      length blocks ≡ cell_count net → AreKept p key blocks values →
      AreItemsKept p key (map (output_item blocks) net.outputs) (map (values_of values) net.outputs)
  -- where items keep digits, the blocks that are found for some inputs keep the digits that are found so
  pub found_kept : (p : Params) (key : List ℕ) (inputs : List NetInput) (items : List Item) (lists : List (List ℕ)) →
      AreItemsKept p key items lists → AreKept p key (blocks_found inputs items) (digits_found inputs items lists)
  -- items of several files keep the digits of each, one file's after another
  pub joined_kept : (p : Params) (key : List ℕ) (items more : List Item) (lists others : List (List ℕ)) →
      AreItemsKept p key items lists → AreItemsKept p key more others → AreItemsKept p key (items ++ more) (lists ++ others)
