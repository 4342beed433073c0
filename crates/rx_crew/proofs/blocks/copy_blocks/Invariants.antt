use Rattle.std.proofs.Common.{◌≡◌, take}
use Rattle.rx_block.specs.Combine.{AreBlocksOf}
use Rattle.rx_crew.proofs.blocks.copy_blocks.Given as goal

abbrev pub invariant-loop-number : goal.invariant-loop-number
invariant-loop-number l = record {
  copied : take l.number l.to ≡ take l.number l.from;
  sizes : AreBlocksOf l.p l.to;
}
