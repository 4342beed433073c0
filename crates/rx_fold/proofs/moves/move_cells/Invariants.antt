use Rattle.std.proofs.Common.{◌≡◌, map, take}
use Rattle.rx_fold.specs.Passes.{cell_in}
use Rattle.rx_fold.proofs.moves.move_cells.Given as goal

abbrev pub invariant-loop-cell : goal.invariant-loop-cell
invariant-loop-cell l = l.moved.items ≡ map (cell_in l.cells) (take l.cell-index l.old)
