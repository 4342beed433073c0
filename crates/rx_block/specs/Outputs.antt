-- The blocks of a net's outputs, among those of all its cells.
use Rattle.std.specs.Prelude.{ℕ, List, map, get_or}
use Rattle.std.specs.List.{flat_map}
use Rattle.rx_net.specs.declared.net.NetOutput.{NetOutput}
use Rattle.rx_block.specs.declared.block.Block.{Block}
use Rattle.rx_block.specs.Combine.{no_block}

-- the blocks of these numbers
abbrev pub numbered_blocks : List Block → List ℕ → List Block
numbered_blocks cells numbers = map (λ c. get_or cells c no_block) numbers

-- the cells of all outputs, one output after another
abbrev pub numbers_of : List NetOutput → List ℕ
numbers_of outputs = flat_map (λ (o : NetOutput). o.cells) outputs

-- the blocks of all outputs, one output after another
abbrev pub output_blocks : List Block → List NetOutput → List Block
output_blocks cells outputs = numbered_blocks cells (numbers_of outputs)
