use Rattle.std.proofs.Common.{◌<◌, ℕ, List, length, sym, subst}
use Rattle.std.specs.List.{AllByRecursion}
use Rattle.rx_fold.proofs.Lists.{given_at}
use Rattle.rx_fold.proofs.live.mark_outputs.Goals as goal

pub mark_cells-requires-clause-cells : goal.mark_cells-requires-clause-cells
mark_cells-requires-clause-cells c =
    subst (λ (cs : List ℕ). AllByRecursion (λ (x : ℕ). x < length c.args.reps.now) cs) (sym c.as_slice.ensures)
    (given_at (λ (x : ℕ). x < length c.args.reps.now) c.args.outputs.now c.loop-output.output-index c.output-item.result c.requires.given c.loop-output-test.true c.output-item.is)
