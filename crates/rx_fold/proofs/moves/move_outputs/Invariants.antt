use Rattle.std.proofs.Common.{◌≡◌, map, take}
use Rattle.rx_fold.specs.Jobs.{moved_output}
use Rattle.rx_fold.specs.Passes.{cell_in}
use Rattle.rx_fold.proofs.moves.move_outputs.Given as goal

abbrev pub invariant-loop-output : goal.invariant-loop-output
invariant-loop-output l = l.moved.items ≡ map (moved_output (cell_in l.cells)) (take l.output-index l.outputs)
