use Rattle.std.proofs.Common.{◌-◌, ◌^◌, ◌%◌}
use Rattle.rx_plan.specs.Planned.{Each, Planned}
use Rattle.rx_plan.specs.Rows.{column_sum}
use Rattle.rx_plan.proofs.rows.digit_row.Given as goal

abbrev pub invariant-loop-k : goal.invariant-loop-k
invariant-loop-k l =
    Planned l.fn.pen l.pen l.cells.items (λ _. 2 ^ l.fn.pen.space - 1) l.k l.k 1 (Each l.rows) (λ xs k. column_sum l.fn.pen l.rows l.width l.count xs k % 2 ^ l.fn.pen.space)
