use Rattle.std.proofs.Common.{length, min, ◌/◌}
use Rattle.rx_plan.specs.Values.{cell_value}
use Rattle.rx_plan.specs.Planned.{Each, Planned}
use Rattle.rx_carry.specs.Carries.{tops_at}
use Rattle.rx_carry.specs.Tree.{halved}
use Rattle.rx_carry.proofs.tree.halve.Given as goal

abbrev pub invariant-loop-i : goal.invariant-loop-i
invariant-loop-i l = Planned l.fn.pen l.pen l.cells.items (tops_at 1) l.i (min l.i (length l.nodes / 2)) 1 (Each l.nodes) (λ xs i. halved (length l.nodes) (cell_value l.fn.pen l.nodes xs) i)
