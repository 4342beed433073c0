use Rattle.std.proofs.Common.{◌+◌, ◌*◌, get_or, refl}
use Rattle.rx_plan.proofs.RowCells.{column_none, column_more}
use Rattle.rx_plan.proofs.rows.column.Goals as goal

pub loop-r-init : goal.loop-r-init
loop-r-init c = rw c.new-cells.ensures.items (column_none c.args.rows.now c.args.width c.args.k c.args.nought)

pub loop-r-preserved : goal.loop-r-preserved
loop-r-preserved c =
    column_more c.args.rows.now c.loop-r.cells.items c.push_unless.new.cells.items c.args.width c.loop-r.r c.args.k c.args.nought (get_or c.args.rows.now (c.loop-r.r * c.args.width + c.args.k) 0) refl
    c.in_ok-push_unless.ensures c.loop-r.invariant
