use Rattle.std.proofs.Common.{◌-◌, ◌+◌, ◌^◌}
use Rattle.rx_plan.specs.Planned.{Each, Planned}
use Rattle.rx_plan.proofs.RowCells.{carry_says}
use Rattle.rx_plan.proofs.rows.carry_row.Given as goal

abbrev pub invariant-loop-k : goal.invariant-loop-k
invariant-loop-k l =
    Planned l.fn.pen l.pen l.cells.items (λ _. 2 ^ l.fn.pen.space - 1) (l.k + 1) l.k 1 (Each l.rows) (carry_says l.fn.pen l.rows l.width l.count)
