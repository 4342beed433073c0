-- What a client encrypts: the lines of a value file become the items of a ciphertext file, in order. The blocks are
-- numbered through the whole file, from 0.
use Rattle.std.specs.Prelude.{ℕ, ◌+◌, ◌%◌, ◌==◌, ◌≡◌, List, [], ◌∷◌, map, Bool, true, Option, Some, None, if◌then◌else◌}
use Rattle.std.specs.List.{range_with_len}
use Rattle.rx_params.specs.declared.params.Params.{Params}
use Rattle.rx_params.specs.declared.kind.Kind.{Kind}
use Rattle.rx_params.specs.declared.kind.Kind.TheVariants.{Int, Bit}
use Rattle.rx_params.specs.Kinds.{block_count, digit_at}
use Rattle.rx_net.specs.Numbers.{digits_of}
use Rattle.rx_circuit.specs.declared.values.ValueLine.{ValueLine}
use Rattle.rx_block.specs.declared.block.Block.{Block}
use Rattle.rx_block.specs.Fresh.{fresh}
use Rattle.rx_block.specs.Keeps.{Keeps}
use Rattle.rx_codec.specs.declared.cipher.Item.{Item}
use Rattle.rx_codec.specs.declared.cipher.Cipher.{Cipher}

-- how many blocks a line has
abbrev pub blocks_in : Params → ValueLine → ℕ
blocks_in p v = block_count v.kind p.message_bits v.bits

-- the digits of a line, the lowest first
abbrev pub line_digits : ℕ → ValueLine → List ℕ
line_digits message_bits v =
    digits_of message_bits (block_count v.kind message_bits v.bits) v.value

-- the fresh block of digit i of a line, whose first block has this number
abbrev pub line_block : Params → List ℕ → List ℕ → List ℕ → ℕ → ValueLine → ℕ → Block
line_block p key mask_seed noise_seed number v i =
    fresh p key mask_seed noise_seed (number + i) v.kind (digit_at p.message_bits v.value i)

-- all blocks of a line
abbrev pub line_blocks : Params → List ℕ → List ℕ → List ℕ → ℕ → ValueLine → List Block
line_blocks p key mask_seed noise_seed number v =
    map (line_block p key mask_seed noise_seed number v) (range_with_len 0 (blocks_in p v))

abbrev pub line_item : Params → List ℕ → List ℕ → List ℕ → ℕ → ValueLine → Item
line_item p key mask_seed noise_seed number v = record {
  name = v.name;
  kind = v.kind;
  bits = v.bits;
  blocks = line_blocks p key mask_seed noise_seed number v;
}

-- the items of some lines, whose blocks are numbered on from here
abbrev pub items_from : Params → List ℕ → List ℕ → List ℕ → ℕ → List ValueLine → List Item
items_from p key mask_seed noise_seed number [] = []
items_from p key mask_seed noise_seed number (v ∷ lines) =
    line_item p key mask_seed noise_seed number v
    ∷ items_from p key mask_seed noise_seed (number + blocks_in p v) lines

-- the encryption of some lines under a key and two seeds
unfoldable pub encrypted_values : Params → List ℕ → List ℕ → List ℕ → List ValueLine → Cipher
encrypted_values p key mask_seed noise_seed lines =
    record { params = p; items = items_from p key mask_seed noise_seed 0 lines }

-- whether blocks of some message bits make up some bits of a kind
abbrev pub is_filled : ℕ → Kind → ℕ → Bool
is_filled message_bits Int bits = bits % message_bits == 0
is_filled message_bits Bit bits = true

-- whether they make up the bits of a line
abbrev pub has_width : ℕ → ValueLine → Bool
has_width message_bits v = is_filled message_bits v.kind v.bits

-- the first line whose bits are no multiple of the message bits
abbrev pub first_width : ℕ → List ValueLine → Option ValueLine
first_width message_bits [] = None
first_width message_bits (v ∷ lines) =
    if has_width message_bits v then first_width message_bits lines else Some v

-- each block of an item keeps its digit of the number
abbrev pub KeepsDigits : Params → List ℕ → List Block → ℕ → ℕ → Type 0
KeepsDigits p key [] value i = Unit {0}
KeepsDigits p key (block ∷ blocks) value i =
    Keeps p key block (digit_at p.message_bits value i) × KeepsDigits p key blocks value (i + 1)

-- each item keeps the number of its line
abbrev pub KeepsValues : Params → List ℕ → List Item → List ValueLine → Type 0
KeepsValues p key [] [] = Unit {0}
KeepsValues p key (item ∷ items) (v ∷ lines) =
    (item.name ≡ v.name) × KeepsDigits p key item.blocks v.value 0 × KeepsValues p key items lines
KeepsValues p key [] (v ∷ lines) = ⊥
KeepsValues p key (item ∷ items) [] = ⊥
