use Rattle.std.proofs.Common.{◌≡◌, replicate}
use Rattle.rx_crew.specs.Evaluation.{zero_block}
use Rattle.rx_crew.proofs.blocks.zero_blocks.Given as goal

abbrev pub invariant-loop : goal.invariant-loop
invariant-loop l = l.blocks.items ≡ replicate l.counter (zero_block l.p)
