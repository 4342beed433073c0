-- The seeded ciphertext file: the magic `RXE2`, the ten parameter fields, one field of 32 bytes, the mask seed, the number of
-- items, up to 64, and the items. An item is spelled as in version 1, but that of the words of a block its body alone stands.
-- The masks of a block are the first words of the stream of its number in the file, from 0.
use Rattle.std.specs.Prelude.{ℕ, ◌+◌, ◌≡◌, nat_le, List, [], ◌∷◌, ◌++◌, length, map, drop, codes, Option, None, Result, Ok}
use Rattle.std.specs.List.{flat_map}
use Rattle.std.specs.Option.{option_or}
use Rattle.std.specs.Int.{w32, to_le_bytes}
use Rattle.rx_torus.specs.Streams.{Draws, stream_of}
use Rattle.rx_torus.specs.Kinds.{stream_number}
use Rattle.rx_torus.specs.declared.kind.StreamKind.TheVariants.{BlockMask}
use Rattle.rx_params.specs.declared.params.Params.{Params}
use Rattle.rx_params.specs.Derived.{large_dim}
use Rattle.rx_lwe.specs.Seeded.{drawn_words}
use Rattle.rx_block.specs.declared.block.Block.{Block}
use Rattle.rx_codec.specs.declared.cipher.Item.{Item}
use Rattle.rx_codec.specs.declared.cipher.Cipher.{Cipher}
use Rattle.rx_codec.specs.declared.fault.CodecFault.{CodecFault}
use Rattle.rx_codec.specs.ParamsFields.{params_bytes, params_at}
use Rattle.rx_codec.specs.NamedFields.{named_bytes}
use Rattle.rx_codec.specs.CipherFile.{block_bytes, item_bytes, most_items, IsCipher, items_at}
use Rattle.rx_codec.specs.Reading.{◌>>=◌, bytes_at, number_at, in_range, magic_at, ends_at}
use Rattle.rx_seeded.specs.declared.cipher.Bodies.{Bodies}
use Rattle.rx_seeded.specs.Masks.{IsSeed, first_unlike}

-- a block of so many words
abbrev pub HasWords : ℕ → Block → Type 0
HasWords count b = length b.words ≡ count

-- ---- bodies alone

abbrev pub short_block : Params → Block → Block
short_block p b = record { words = drop (large_dim p) b.words; degree = b.degree; noise = b.noise }

abbrev pub short_item : Params → Item → Item
short_item p i = record { name = i.name; kind = i.kind; bits = i.bits; blocks = map (short_block p) i.blocks }

-- ---- bodies with the masks that a seed draws; the blocks are numbered on from here

-- the stream of the masks of a block, by its number
abbrev pub block_masks : List ℕ → ℕ → Draws
block_masks mask_seed number = stream_of mask_seed (stream_number BlockMask number)

abbrev pub full_block : Params → List ℕ → ℕ → Block → Block
full_block p mask_seed number b = record {
  words = drawn_words (large_dim p) (block_masks mask_seed number) ++ b.words;
  degree = b.degree;
  noise = b.noise;
}

abbrev pub full_blocks : Params → List ℕ → ℕ → List Block → List Block
full_blocks p mask_seed number [] = []
full_blocks p mask_seed number (b ∷ blocks) = full_block p mask_seed number b ∷ full_blocks p mask_seed (number + 1) blocks

abbrev pub full_item : Params → List ℕ → ℕ → Item → Item
full_item p mask_seed number i =
    record { name = i.name; kind = i.kind; bits = i.bits; blocks = full_blocks p mask_seed number i.blocks }

abbrev pub full_items : Params → List ℕ → ℕ → List Item → List Item
full_items p mask_seed number [] = []
full_items p mask_seed number (i ∷ items) =
    full_item p mask_seed number i ∷ full_items p mask_seed (number + length i.blocks) items

-- items with the masks that a seed draws in place of their own
abbrev pub redrawn_items : Params → List ℕ → List Item → List Item
redrawn_items p mask_seed items = full_items p mask_seed 0 (map (short_item p) items)

-- ---- the one spelling

-- the head of a file of so many items
abbrev pub seeded_cipher_head : Params → List ℕ → ℕ → List ℕ
seeded_cipher_head p mask_seed count = codes "RXE2" ++ params_bytes p ++ mask_seed ++ to_le_bytes w32 count

abbrev pub seeded_cipher_bytes : List ℕ → Cipher → List ℕ
seeded_cipher_bytes mask_seed c =
    seeded_cipher_head c.params mask_seed (length c.items) ++ flat_map item_bytes (map (short_item c.params) c.items)

-- the bytes are the seeded file of the mask seed and the cipher: the masks of the cipher are those that the seed draws
pub record SeededCipher (bytes mask_seed : List ℕ) (c : Cipher) : Type 0 where
  pub seed : IsSeed mask_seed
  pub fits : IsCipher c
  pub drawn : redrawn_items c.params mask_seed c.items ≡ c.items
  pub spelled : bytes ≡ seeded_cipher_bytes mask_seed c

-- ---- reading, with the first fault

-- the set, the mask seed and the items of bodies alone that a file has
unfoldable pub bodies_from : List ℕ → Result Bodies CodecFault
bodies_from file = do
  after ← magic_at (codes "RXE2") file
  params ← params_at file after
  seed ← bytes_at file 32 params.1
  count ← number_at w32 file seed.1
  count ← in_range (nat_le count.0 most_items) seed.1 count
  items ← items_at 1 params.0 count.0 [] file count.1
  ends_at file items.1 (record { params = params.0; mask_seed = seed.0; items = items.0 })

-- the cipher of these bodies, with the masks that their seed draws
abbrev pub full_cipher : Bodies → Cipher
full_cipher b = record { params = b.params; items = full_items b.params b.mask_seed 0 b.items }

-- the cipher that a seeded file spells
abbrev pub seeded_cipher_from : List ℕ → Result Cipher CodecFault
seeded_cipher_from file = bodies_from file >>= λ b. Ok (full_cipher b)

-- ---- the first mask word that a seed does not draw, by the place of its first byte in the version 1 file

-- among blocks that are numbered, and stand, on from here
abbrev pub wrong_in_blocks : Params → List ℕ → ℕ → ℕ → List Block → Option ℕ
wrong_in_blocks p mask_seed number at [] = None
wrong_in_blocks p mask_seed number at (b ∷ blocks) =
    option_or (first_unlike (at + 2) b.words (full_block p mask_seed number (short_block p b)).words)
    (wrong_in_blocks p mask_seed (number + 1) (at + length (block_bytes b)) blocks)

-- among items
abbrev pub wrong_in_items : Params → List ℕ → ℕ → ℕ → List Item → Option ℕ
wrong_in_items p mask_seed number at [] = None
wrong_in_items p mask_seed number at (i ∷ items) =
    option_or (wrong_in_blocks p mask_seed number (at + length (named_bytes i.name i.kind i.bits)) i.blocks)
    (wrong_in_items p mask_seed (number + length i.blocks) (at + length (item_bytes i)) items)

abbrev pub wrong_cipher_mask : List ℕ → Cipher → Option ℕ
wrong_cipher_mask mask_seed c = wrong_in_items c.params mask_seed 0 48 c.items
