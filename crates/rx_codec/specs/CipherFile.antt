-- The ciphertext file: the magic `RXE1`, the ten parameter fields, the number of items, up to 64, and the items.
-- An item is a name, a form and its blocks, the least first. A name is its length and its bytes; none stands twice. A form is
-- the kind, 0 for an int and 1 for a bit, and the bits. A block is its degree, its noise tag and its words, 8 bytes each.
-- Whole numbers are little-endian.
use Rattle.std.specs.Prelude.{ℕ, ◌+◌, ◌^◌, ◌≡◌, ◌<◌, ◌≤◌, nat_le, ◌&&◌, List, [], ◌∷◌, ◌++◌, length, codes, Bool, IsTrue, false, Result, Ok, EachIndex, slice_index}
use Rattle.std.specs.List.{flat_map, list_any, AllByRecursion}
use Rattle.std.specs.Str.{bytes_eq}
use Rattle.std.specs.Int.{w8, w32, to_le_bytes}
use Rattle.rx_text.specs.Names.{is_name}
use Rattle.rx_params.specs.declared.params.Params.{Params}
use Rattle.rx_params.specs.declared.kind.Kind.{Kind}
use Rattle.rx_params.specs.Acceptance.{Accepts}
use Rattle.rx_params.specs.Derived.{large_dim, noise_limit}
use Rattle.rx_params.specs.Kinds.{greatest, block_count, is_form}
use Rattle.rx_block.specs.declared.block.Block.{Block}
use Rattle.rx_codec.specs.declared.cipher.Item.{Item}
use Rattle.rx_codec.specs.declared.cipher.Cipher.{Cipher}
use Rattle.rx_codec.specs.declared.fault.CodecFault.{CodecFault}
use Rattle.rx_codec.specs.ParamsFields.{params_bytes, params_at}
use Rattle.rx_codec.specs.WordFields.{word_bytes, words_at}
use Rattle.rx_codec.specs.NamedFields.{named_bytes, name_at, form_at}
use Rattle.rx_codec.specs.Reading.{◌>>=◌, number_at, in_range, many_at, magic_at, ends_at}

-- whether one of these items has the name
abbrev pub has_item : List ℕ → List Item → Bool
has_item name items = list_any (λ item. bytes_eq item.name name) items

-- ---- the one spelling
abbrev pub block_bytes : Block → List ℕ
block_bytes b = b.degree ∷ b.noise ∷ word_bytes b.words

abbrev pub item_bytes : Item → List ℕ
item_bytes i = named_bytes i.name i.kind i.bits ++ flat_map block_bytes i.blocks

-- the head of a file of so many items
abbrev pub cipher_head : Params → ℕ → List ℕ
cipher_head p count = codes "RXE1" ++ params_bytes p ++ to_le_bytes w32 count

abbrev pub cipher_bytes : Cipher → List ℕ
cipher_bytes c = cipher_head c.params (length c.items) ++ flat_map item_bytes c.items

-- ---- what has a spelling

-- a block of a set, of so many words
pub record IsSizedBlock (many : ℕ) (p : Params) (kind : Kind) (b : Block) : Type 0 where
  pub degree : b.degree ≤ greatest kind p.message_bits
  pub noise_low : 1 ≤ b.noise
  pub noise_high : b.noise ≤ noise_limit p.message_bits
  pub size : length b.words ≡ many
  pub words : EachIndex b.words (λ i. slice_index b.words i < 2 ^ 64)

-- a block with all its mask words and its body
abbrev pub IsBlock : Params → Kind → Block → Type 0
IsBlock p kind b = IsSizedBlock (large_dim p + 1) p kind b

-- an item, whatever text its name is
pub record IsWritableItem (p : Params) (i : Item) : Type 0 where
  pub form : IsTrue (is_form p.message_bits i.kind i.bits)
  pub count : length i.blocks ≡ block_count i.kind p.message_bits i.bits
  pub blocks : AllByRecursion (IsBlock p i.kind) i.blocks

-- an item of a set, whose blocks have so many words
pub record IsSizedItem (many : ℕ) (p : Params) (i : Item) : Type 0 where
  pub name : IsTrue (is_name i.name)
  pub form : IsTrue (is_form p.message_bits i.kind i.bits)
  pub count : length i.blocks ≡ block_count i.kind p.message_bits i.bits
  pub blocks : AllByRecursion (IsSizedBlock many p i.kind) i.blocks

abbrev pub IsItem : Params → Item → Type 0
IsItem p i = IsSizedItem (large_dim p + 1) p i

-- no name stands twice
abbrev pub ItemsOnce : List Item → Type 0
ItemsOnce [] = Unit {0}
ItemsOnce (i ∷ items) = (has_item i.name items ≡ false) × ItemsOnce items

-- the most items of a file
abbrev pub most_items : ℕ
most_items = 64

-- what is asked of a cipher that is to be written: all but that names are names, as each `Name` is
pub record IsWritable (c : Cipher) : Type 0 where
  pub accepted : Accepts c.params
  pub count : length c.items ≤ most_items
  pub items : AllByRecursion (IsWritableItem c.params) c.items
  pub once : ItemsOnce c.items

pub record IsCipher (c : Cipher) : Type 0 where
  pub accepted : Accepts c.params
  pub count : length c.items ≤ most_items
  pub items : AllByRecursion (IsItem c.params) c.items
  pub once : ItemsOnce c.items

-- the bytes are the ciphertext file of the cipher
pub record CipherFile (bytes : List ℕ) (c : Cipher) : Type 0 where
  pub fits : IsCipher c
  pub spelled : bytes ≡ cipher_bytes c

-- ---- reading, with the first fault, of blocks of so many words
unfoldable pub block_at : ℕ → Params → Kind → List ℕ → ℕ → Result (Block × ℕ) CodecFault
block_at size p kind file at = do
  degree ← number_at w8 file at
  degree ← in_range (nat_le degree.0 (greatest kind p.message_bits)) at degree
  noise ← number_at w8 file degree.1
  noise ← in_range (nat_le 1 noise.0 && nat_le noise.0 (noise_limit p.message_bits)) degree.1 noise
  words ← words_at size file noise.1
  Ok (record { words = words.0; degree = degree.0; noise = noise.0 }, words.1)

-- so many blocks, after those before
abbrev pub blocks_at : ℕ → Params → Kind → ℕ → List Block → List ℕ → ℕ → Result (List Block × ℕ) CodecFault
blocks_at size p kind count before file at = many_at (λ before. block_at size p kind) count before file at

unfoldable pub item_at : ℕ → Params → List Item → List ℕ → ℕ → Result (Item × ℕ) CodecFault
item_at size p before file at = do
  name ← name_at (λ name. has_item name before) file at
  form ← form_at p.message_bits file name.1
  blocks ← blocks_at size p form.0.0 (block_count form.0.0 p.message_bits form.0.1) [] file form.1
  Ok (record { name = name.0; kind = form.0.0; bits = form.0.1; blocks = blocks.0 }, blocks.1)

-- so many items, after those before
abbrev pub items_at : ℕ → Params → ℕ → List Item → List ℕ → ℕ → Result (List Item × ℕ) CodecFault
items_at size p count before file at = many_at (item_at size p) count before file at

-- the cipher that a file spells, or its first fault
unfoldable pub cipher_from : List ℕ → Result Cipher CodecFault
cipher_from file = do
  after ← magic_at (codes "RXE1") file
  params ← params_at file after
  count ← number_at w32 file params.1
  count ← in_range (nat_le count.0 most_items) params.1 count
  items ← items_at (large_dim params.0 + 1) params.0 count.0 [] file count.1
  ends_at file items.1 (record { params = params.0; items = items.0 })
