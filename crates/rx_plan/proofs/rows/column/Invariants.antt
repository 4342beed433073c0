use Rattle.rx_plan.specs.Rows.{IsColumn}
use Rattle.rx_plan.proofs.rows.column.Given as goal

abbrev pub invariant-loop-r : goal.invariant-loop-r
invariant-loop-r l = IsColumn l.rows l.width l.r l.k l.nought l.cells.items
