-- Tables looked up in blocks.
use Rattle.std.specs.Prelude.{ℕ, List}
use Rattle.rx_net.specs.Tags.{greatest_between}
use Rattle.rx_boot.specs.ServerKeys.{ServerWords}
use Rattle.rx_boot.specs.Bootstrap.{bootstrapped}
use Rattle.rx_block.specs.declared.block.Block.{Block}

-- the block that a lookup of a table gives: its degree is the greatest entry up to the degree of the block that is looked up
abbrev pub looked_up : ServerWords → List ℕ → Block → Block
looked_up key table block = record {
  words = bootstrapped key table block.words;
  degree = greatest_between table 0 block.degree;
  noise = 1;
}
