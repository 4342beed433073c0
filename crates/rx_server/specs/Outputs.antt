-- The outputs of a net, as the items of a ciphertext file.
use Rattle.std.specs.Prelude.{List, [], ◌∷◌, length, map, take, drop}
use Rattle.rx_params.specs.declared.params.Params.{Params}
use Rattle.rx_net.specs.declared.net.NetOutput.{NetOutput}
use Rattle.rx_block.specs.declared.block.Block.{Block}
use Rattle.rx_block.specs.Outputs.{numbered_blocks}
use Rattle.rx_codec.specs.declared.cipher.Item.{Item}
use Rattle.rx_codec.specs.declared.cipher.Cipher.{Cipher}

-- an output of these blocks
abbrev pub item_with : NetOutput → List Block → Item
item_with output blocks = record { name = output.name; kind = output.kind; bits = output.bits; blocks = blocks }

-- an output whose blocks are those of its cells
abbrev pub output_item : List Block → NetOutput → Item
output_item cells output = item_with output (numbered_blocks cells output.cells)

-- outputs that share out some blocks, each as many as it has cells
abbrev pub items_over : List NetOutput → List Block → List Item
items_over [] blocks = []
items_over (o ∷ os) blocks = item_with o (take (length o.cells) blocks) ∷ items_over os (drop (length o.cells) blocks)

-- the ciphertext of the outputs over the blocks of all cells
abbrev pub outputs_cipher : Params → List Block → List NetOutput → Cipher
outputs_cipher p cells outputs = record { params = p; items = map (output_item cells) outputs }
