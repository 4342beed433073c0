use Rattle.std.proofs.Common.{◌≡◌, take}
use Rattle.rx_block.specs.Outputs.{numbers_of}
use Rattle.rx_crew.proofs.run.output_cells.Given as goal

abbrev pub invariant-loop-output : goal.invariant-loop-output
invariant-loop-output l = l.numbers.items ≡ numbers_of (take l.output-index l.outputs)
