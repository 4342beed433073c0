use Rattle.rx_div.proofs.Progressed.{Progressed}
use Rattle.rx_div.proofs.steps.divided.Given as goal

abbrev pub invariant-loop-t : goal.invariant-loop-t
invariant-loop-t l = Progressed l.fn.pen l.pen l.bits l.b l.nought l.t l.rest.items l.borrows.items
