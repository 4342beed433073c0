use Rattle.std.proofs.Common.{◌-◌, ◌^◌}
use Rattle.rx_plan.specs.Planned.{Each, Planned}
use Rattle.rx_plan.specs.Rows.{shifted, product_at}
use Rattle.rx_plan.proofs.rows.product_row.Given as goal

abbrev pub invariant-loop-k : goal.invariant-loop-k
invariant-loop-k l =
    Planned l.fn.pen l.pen l.cells.items (λ _. 2 ^ l.fn.pen.space - 1) l.k (l.k - l.shift) 1 (λ P. P l.x × Each l.b P)
    (λ xs k. shifted l.shift (product_at (2 ^ l.fn.pen.space) l.fn.pen l.table l.x l.b xs) k)
