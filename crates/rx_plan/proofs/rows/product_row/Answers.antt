use Rattle.std.proofs.Common.{length, arith}
use Rattle.rx_plan.proofs.RowCells.{room_step, product_push}
use Rattle.rx_plan.proofs.rows.product_row.Goals as goal

pub product_cell-requires-clause-room : goal.product_cell-requires-clause-room
product_cell-requires-clause-room c =
    let p = c.loop-k.invariant in
    omega (arith, room_step c.args.shift c.loop-k.k (length c.args.b.now) c.loop-k-test.true, p.jobs_in, p.extends.jobs_grow, c.requires.room)

pub loop-k-preserved : goal.loop-k-preserved
loop-k-preserved c =
    rw c.in_ok-push.ensures.items (product_push c.args.pen.now c.loop-k.pen c.product_cell.new.pen c.loop-k.cells.items c.args.x c.args.b.now c.args.table.now c.loop-k.k c.args.shift c.in_ok-cell.cell
    c.requires.first c.requires.second c.loop-k-test.true c.loop-k.invariant c.in_ok-cell.ensures.gives c.in_ok-cell.ensures.deep c.in_ok-cell.ensures.value)
