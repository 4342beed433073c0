use Rattle.std.proofs.Common.{◌*◌}
use Rattle.rx_plan.specs.Values.{cell_value}
use Rattle.rx_plan.specs.Planned.{Each, Planned}
use Rattle.rx_carry.specs.Carries.{tops_at}
use Rattle.rx_carry.specs.Prefix.{stepped, combined_at}
use Rattle.rx_carry.proofs.prefix.level.Given as goal

abbrev pub invariant-loop-i : goal.invariant-loop-i
invariant-loop-i l = Planned l.fn.pen l.pen l.cells.items (tops_at (2 * l.span)) l.i (combined_at l.span l.i) 1 (Each l.states) (λ xs i. stepped l.span (cell_value l.fn.pen l.states xs) i)
