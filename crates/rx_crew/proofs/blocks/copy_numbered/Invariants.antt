use Rattle.std.proofs.Common.{◌≡◌, take}
use Rattle.rx_block.specs.Combine.{AreBlocksOf}
use Rattle.rx_block.specs.Outputs.{numbered_blocks}
use Rattle.rx_crew.specs.Evaluation.{AreWordsOf}
use Rattle.rx_crew.proofs.blocks.copy_numbered.Given as goal

abbrev pub invariant-loop-place : goal.invariant-loop-place
invariant-loop-place l = record {
  copied : take l.place l.to ≡ numbered_blocks l.from (take l.place l.numbers);
  sizes : AreBlocksOf l.p l.to;
  words : AreWordsOf (take l.place l.to);
}
