-- Inputs found in files and outputs made of blocks, computed by the definitions.
use Rattle.std.proofs.Common.{◌≡◌, ℕ, List, [], ◌∷◌, Some, None, refl}
use Rattle.std.specs.Prelude.{codes}
use Rattle.rx_params.specs.declared.kind.Kind.{Kind}
use Rattle.rx_params.specs.declared.kind.Kind.TheVariants.{Int, Bit}
use Rattle.rx_params.specs.Sets.{rx_test}
use Rattle.rx_net.specs.declared.net.NetInput.{NetInput}
use Rattle.rx_net.specs.declared.net.NetOutput.{NetOutput}
use Rattle.rx_block.specs.declared.block.Block.{Block}
use Rattle.rx_codec.specs.declared.cipher.Cipher.{Cipher}
use Rattle.rx_codec.specs.declared.cipher.Item.{Item}
use Rattle.rx_server.specs.declared.fault.InputFault.TheVariants.{Missing, Twice, Form, Degree, Noise}
use Rattle.rx_server.specs.Inputs.{items_of, first_fault, blocks_found, digits_found}
use Rattle.rx_server.specs.Outputs.{output_item, items_over, outputs_cipher}

abbrev block : ℕ → ℕ → ℕ → Block
block number degree noise = record { words = number ∷ []; degree = degree; noise = noise }

abbrev item : List ℕ → List Block → Item
item name blocks = record { name = name; kind = Int; bits = 4; blocks = blocks }

abbrev item_a : Item
item_a = item (codes "a") (block 1 3 1 ∷ block 2 2 1 ∷ [])

abbrev item_b : Item
item_b = item (codes "b") (block 3 3 1 ∷ block 4 3 2 ∷ [])

abbrev file : List Item → Cipher
file items = record { params = rx_test; items = items }

-- two files, the second with an item that no input names
abbrev items : List Item
items = items_of (file (item_b ∷ []) ∷ file (item_a ∷ item (codes "other") [] ∷ []) ∷ [])

abbrev wanted : Kind → List ℕ → ℕ → ℕ → ℕ → NetInput
wanted kind name bits degree noise = record { kind = kind; name = name; bits = bits; degree = degree; noise = noise }

abbrev both : List NetInput
both = wanted Int (codes "a") 4 3 1 ∷ wanted Int (codes "b") 4 3 2 ∷ []

found : first_fault both items ≡ None
found = refl

-- the blocks stand in the order of the inputs
found_blocks : blocks_found both items ≡ block 1 3 1 ∷ block 2 2 1 ∷ block 3 3 1 ∷ block 4 3 2 ∷ []
found_blocks = refl

-- the digits of the items, found in the same way
found_digits : digits_found both items ((3 ∷ 4 ∷ []) ∷ (1 ∷ 2 ∷ []) ∷ [] ∷ []) ≡ 1 ∷ 2 ∷ 3 ∷ 4 ∷ []
found_digits = refl

-- a net without inputs wants nothing
nothing_wanted : (first_fault [] [] ≡ None) × (blocks_found [] items ≡ [])
nothing_wanted = (refl, refl)

-- the input that comes first tells its fault; the form comes before the tags, and in each block the degree before the noise tag
faults : (first_fault (wanted Int (codes "c") 4 3 1 ∷ both) items ≡ Some (Missing (codes "c")))
    × (first_fault both (item_a ∷ items) ≡ Some (Twice (codes "a")))
    × (first_fault (wanted Int (codes "b") 2 0 1 ∷ []) items ≡ Some (Form (codes "b")))
    × (first_fault (wanted Bit (codes "b") 4 0 1 ∷ []) items ≡ Some (Form (codes "b")))
    × (first_fault (wanted Int (codes "b") 4 2 1 ∷ []) items ≡ Some (Degree (codes "b") 3 2))
    × (first_fault (wanted Int (codes "b") 4 3 1 ∷ []) items ≡ Some (Noise (codes "b") 2 1))
faults = (refl, refl, refl, refl, refl, refl)

-- ---- outputs over the blocks of all cells; one cell stands in both
abbrev output : List ℕ → ℕ → List ℕ → NetOutput
output name bits cells = record { name = name; kind = Int; bits = bits; cells = cells }

abbrev cells : List Block
cells = block 1 3 1 ∷ block 2 2 1 ∷ []

one_item : output_item cells (output (codes "s") 4 (1 ∷ 0 ∷ [])) ≡ item (codes "s") (block 2 2 1 ∷ block 1 3 1 ∷ [])
one_item = refl

whole_file : outputs_cipher rx_test cells (output (codes "s") 4 (1 ∷ 0 ∷ []) ∷ output (codes "t") 4 (0 ∷ 0 ∷ []) ∷ []) ≡ file (item (codes "s") (block 2 2 1 ∷ block 1 3 1 ∷ []) ∷ item (codes "t") (block 1 3 1 ∷ block 1 3 1 ∷ []) ∷ [])
whole_file = refl

shared : items_over (output (codes "s") 4 (1 ∷ 0 ∷ []) ∷ output (codes "t") 4 (0 ∷ 0 ∷ []) ∷ []) (block 5 3 1 ∷ block 6 3 1 ∷ block 7 3 1 ∷ block 8 3 1 ∷ []) ≡ item (codes "s") (block 5 3 1 ∷ block 6 3 1 ∷ []) ∷ item (codes "t") (block 7 3 1 ∷ block 8 3 1 ∷ []) ∷ []
shared = refl
