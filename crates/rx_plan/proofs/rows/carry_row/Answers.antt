use Rattle.std.proofs.Common.{ℕ, List, ◌<◌, ◌-◌, ◌^◌, sym, arith, subst}
use Rattle.rx_plan.specs.Planned.{IsCell}
use Rattle.rx_plan.specs.Rows.{IsColumn}
use Rattle.rx_plan.proofs.Kept.{blocks_now}
use Rattle.rx_plan.proofs.RowCells.{column_each, carry_start, carry_push}
use Rattle.rx_plan.proofs.rows.carry_row.Goals as goal

pub loop-k-init : goal.loop-k-init
loop-k-init c =
    rw (c.in_ok-push.ensures.items, c.new-cells.ensures.items) (carry_start c.args.pen.now c.args.rows.now c.args.width c.args.count c.args.nought c.space-space.ensures.bounded c.requires.nought)

pub carry_cell-requires-clause-blocks : goal.carry_cell-requires-clause-blocks
carry_cell-requires-clause-blocks c =
    let h : IsColumn c.args.rows.now c.args.width c.args.count c.loop-k.k c.args.nought c.deref.result.now =
    subst (λ (cs : List ℕ). IsColumn c.args.rows.now c.args.width c.args.count c.loop-k.k c.args.nought cs) (sym c.deref.ensures.value) c.in_ok-column.ensures in
    column_each c.args.rows.now c.deref.result.now c.args.width c.args.count c.loop-k.k c.args.nought (IsCell c.loop-k.pen (2 ^ c.loop-k.pen.space - 1)) (omega arith) c.requires.size h
    (blocks_now c.args.pen.now c.loop-k.pen c.args.rows.now c.loop-k.invariant.extends c.requires.rows)

pub loop-k-preserved : goal.loop-k-preserved
loop-k-preserved c =
    let h : IsColumn c.args.rows.now c.args.width c.args.count c.loop-k.k c.args.nought c.deref.result.now =
    subst (λ (cs : List ℕ). IsColumn c.args.rows.now c.args.width c.args.count c.loop-k.k c.args.nought cs) (sym c.deref.ensures.value) c.in_ok-column.ensures in
    let q : c.loop-k.k < c.args.width = omega arith in
    rw c.in_ok-push-2.ensures.items (carry_push c.args.pen.now c.loop-k.pen c.carry_cell.new.pen c.loop-k.cells.items c.args.rows.now c.deref.result.now c.args.width c.args.count c.loop-k.k c.args.nought c.in_ok-cell.cell
    c.space-space.ensures.bounded c.requires.rows q c.requires.size c.requires.nought h c.loop-k.invariant c.in_ok-cell.ensures.gives c.in_ok-cell.ensures.deep c.in_ok-cell.ensures.value)
