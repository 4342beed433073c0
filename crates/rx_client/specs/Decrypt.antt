-- What a client reads: the number of each item, by what its blocks decode to.
use Rattle.std.specs.Prelude.{ℕ, ◌+◌, List, [], ◌∷◌, ◌++◌, map, decimal, Option, Some, None, Result, Ok, Err}
use Rattle.std.specs.List.{flat_map}
use Rattle.std.specs.Option.{option_or}
use Rattle.rx_laws.specs.Decode.{decoded}
use Rattle.rx_params.specs.declared.params.Params.{Params}
use Rattle.rx_lwe.specs.Lwe.{phase_of}
use Rattle.rx_net.specs.Numbers.{number_of}
use Rattle.rx_block.specs.declared.block.Block.{Block}
use Rattle.rx_block.specs.declared.block.Damaged.{Damaged}
use Rattle.rx_block.specs.Keeps.{decrypted}
use Rattle.rx_codec.specs.declared.cipher.Item.{Item}
use Rattle.rx_client.specs.declared.decrypt.Damage.{Damage}

-- what a block decodes to
abbrev pub block_number : Params → List ℕ → Block → ℕ
block_number p key block = decoded p.message_bits (phase_of key block.words)

abbrev pub item_number : Params → List ℕ → Item → ℕ
item_number p key item = number_of p.message_bits (map (block_number p key) item.blocks)

-- the line of a name and a number
abbrev pub named_line : List ℕ → ℕ → List ℕ
named_line name number = name ++ 32 ∷ decimal number ++ 10 ∷ []

-- the lines of some items
abbrev pub item_lines : Params → List ℕ → List Item → List ℕ
item_lines p key items = flat_map (λ item. named_line item.name (item_number p key item)) items

-- the first of some blocks that exceeds its degree, by its place, counted on from here
abbrev pub damage_here : List ℕ → ℕ → Result ℕ Damaged → Option Damage → Option Damage
damage_here name place (Ok number) later = later
damage_here name place (Err damaged) later =
    Some (record { name = name; block = place; decoded = damaged.decoded; degree = damaged.degree })

abbrev pub damage_in : Params → List ℕ → List ℕ → ℕ → List Block → Option Damage
damage_in p key name place [] = None
damage_in p key name place (block ∷ blocks) =
    damage_here name place (decrypted p key block) (damage_in p key name (place + 1) blocks)

-- the first block that exceeds its degree, in the order of items and blocks
abbrev pub first_damage : Params → List ℕ → List Item → Option Damage
first_damage p key [] = None
first_damage p key (item ∷ items) =
    option_or (damage_in p key item.name 0 item.blocks) (first_damage p key items)

-- the lines of items whose blocks keep the digits of these lists
abbrev pub kept_lines : ℕ → List Item → List (List ℕ) → List ℕ
kept_lines message_bits [] lists = []
kept_lines message_bits (item ∷ items) [] = []
kept_lines message_bits (item ∷ items) (digits ∷ lists) =
    named_line item.name (number_of message_bits digits) ++ kept_lines message_bits items lists
