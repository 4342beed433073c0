use Rattle.std.proofs.Common.{◌<◌, ℕ, List, length, sym, subst}
use Rattle.std.specs.List.{AllByRecursion}
use Rattle.rx_fold.proofs.Lists.{given_at}
use Rattle.rx_fold.proofs.moves.move_outputs.Goals as goal

pub move_cells-requires : goal.move_cells-requires
move_cells-requires c =
    subst (λ (cs : List ℕ). AllByRecursion (λ (x : ℕ). x < length c.args.cells.now) cs) (sym c.as_slice.ensures)
    (given_at (λ (x : ℕ). x < length c.args.cells.now) c.args.outputs.now c.loop-output.output-index c.output-item.result c.requires c.loop-output-test.true c.output-item.is)
