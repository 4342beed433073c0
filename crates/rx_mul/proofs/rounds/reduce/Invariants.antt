use Rattle.rx_mul.proofs.Reduction.{Reduced}
use Rattle.rx_mul.proofs.rounds.reduce.Given as goal

abbrev pub invariant-loop-count : goal.invariant-loop-count
invariant-loop-count l = Reduced l.fn.pen l.pen l.fn.rows.items l.rows.items l.shared.width l.fn.count l.count l.most

abbrev pub decreases-loop-count : goal.decreases-loop-count
decreases-loop-count l = l.count
