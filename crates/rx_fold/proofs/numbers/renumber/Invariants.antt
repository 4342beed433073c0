use Rattle.rx_fold.specs.Folded.{numbered}
use Rattle.rx_fold.specs.Passes.{Tells, cell_in, is_marked}
use Rattle.rx_fold.proofs.numbers.renumber.Given as goal

abbrev pub invariant-loop-rep : goal.invariant-loop-rep
invariant-loop-rep l = Tells 0 (λ c. numbered (is_marked l.kept) (cell_in l.reps c)) l.rep-index l.cells.items
