use Rattle.rx_plan.specs.Planned.{EachOf, Planned}
use Rattle.rx_carry.specs.Carries.{tops_at}
use Rattle.rx_carry.proofs.BlockJobs.{state_values}
use Rattle.rx_carry.proofs.states.states.Given as goal

abbrev pub invariant-loop-i : goal.invariant-loop-i
invariant-loop-i l = Planned l.fn.pen l.pen l.cells.items (tops_at 1) l.i l.i 1 (EachOf l.a l.b) (state_values l.operation l.fn.pen l.a l.b)
