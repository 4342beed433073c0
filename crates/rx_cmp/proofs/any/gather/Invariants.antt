use Rattle.std.proofs.Common.{◌-◌, ◌*◌, ◌^◌, min, length}
use Rattle.rx_plan.specs.Values.{cell_value}
use Rattle.rx_plan.specs.Planned.{Each, Planned}
use Rattle.rx_cmp.specs.Groups.{grouped}
use Rattle.rx_cmp.proofs.any.gather.Given as goal

abbrev pub invariant-loop-i : goal.invariant-loop-i
invariant-loop-i l =
    Planned l.fn.pen l.pen l.cells.items (λ _. 2 ^ l.fn.pen.space - 1) l.i (min (l.i * l.most) (length l.nodes) - l.i) 1 (Each l.nodes) (λ inputs i. grouped l.most (length l.nodes) (cell_value l.fn.pen l.nodes inputs) i)
