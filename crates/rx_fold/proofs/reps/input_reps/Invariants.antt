use Rattle.rx_fold.specs.Passes.{Tells}
use Rattle.rx_fold.proofs.reps.input_reps.Given as goal

abbrev pub invariant-loop-cell : goal.invariant-loop-cell
invariant-loop-cell l = Tells 0 (λ c. c) l.cell l.reps.items
