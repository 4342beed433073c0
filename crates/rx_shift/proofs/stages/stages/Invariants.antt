use Rattle.rx_shift.proofs.Staging.{Staged}
use Rattle.rx_shift.proofs.stages.stages.Given as goal

abbrev pub invariant-loop-j : goal.invariant-loop-j
invariant-loop-j l = Staged l.fn.pen l.pen l.direction l.a l.bits l.cells.items l.j l.distance
