use Rattle.std.specs.Prelude.{◌==◌, ◌&&◌, ◌||◌, nat_lt, false}
use Rattle.rx_fold.specs.Passes.{Tells, cell_in, is_marked}
use Rattle.rx_fold.proofs.numbers.find_kept.Given as goal

abbrev pub invariant-loop-cell : goal.invariant-loop-cell
invariant-loop-cell l = Tells false (λ c. nat_lt c l.inputs || ((cell_in l.reps c == c) && is_marked l.live c)) l.cell l.kept.items
