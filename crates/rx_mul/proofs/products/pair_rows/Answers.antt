use Rattle.std.proofs.Common.{◌≡◌, ℕ, ◌<◌, ◌≤◌, ◌-◌, ◌^◌, length, get_or, sym, arith, subst}
use Rattle.rx_net.specs.Tags.{greatest_of}
use Rattle.rx_net.proofs.Grows.{extends_onward}
use Rattle.rx_plan.specs.Tables.{IsTable}
use Rattle.rx_plan.proofs.Kept.{blocks_now, block_now}
use Rattle.rx_plan.proofs.RowCells.{nought_kept}
use Rattle.rx_mul.proofs.PairRows.{PairRows, low_is, high_is, low_small, high_small, rows_first, rows_pair, rows_room, square_some, products_planned, products_number}
use Rattle.rx_mul.proofs.products.pair_rows.Goals as goal

pub product_row-requires-clause-first : goal.product_row-requires-clause-first
product_row-requires-clause-first c = c.requires.first 0 c.requires.some

pub product_row-requires-clause-table : goal.product_row-requires-clause-table
product_row-requires-clause-table c = low_is c.args.pen.now.space c.args.low.now c.requires.low

pub product_row-requires-clause-small : goal.product_row-requires-clause-small
product_row-requires-clause-small c = low_small c.args.pen.now.space c.args.low.now c.requires.low

pub product_row-requires-clause-room : goal.product_row-requires-clause-room
product_row-requires-clause-room c = omega (arith, square_some (length c.args.a.now) c.requires.some, c.requires.room, c.requires.same)

pub loop-i-init : goal.loop-i-init
loop-i-init c = rows_first c.args.pen.now c.product_row.new.pen c.in_ok-rows.rows.items c.args.a.now c.args.b.now c.args.low.now c.args.high.now c.requires.some c.requires.same c.in_ok-rows.ensures.planned

pub product_row-requires-in-loop-i-clause-first : goal.product_row-requires-in-loop-i-clause-first
product_row-requires-in-loop-i-clause-first c = block_now c.args.pen.now c.loop-i.pen (get_or c.args.a.now (c.loop-i.i - 1) 0) c.loop-i.invariant.planned.extends (c.requires.first (c.loop-i.i - 1) (omega arith))

pub product_row-requires-in-loop-i-clause-second : goal.product_row-requires-in-loop-i-clause-second
product_row-requires-in-loop-i-clause-second c = blocks_now c.args.pen.now c.loop-i.pen c.args.b.now c.loop-i.invariant.planned.extends c.requires.second

pub product_row-requires-in-loop-i-clause-nought : goal.product_row-requires-in-loop-i-clause-nought
product_row-requires-in-loop-i-clause-nought c = nought_kept c.args.pen.now c.loop-i.pen c.args.nought c.loop-i.invariant.planned.extends c.requires.nought

pub product_row-requires-in-loop-i-clause-table : goal.product_row-requires-in-loop-i-clause-table
product_row-requires-in-loop-i-clause-table c = subst (λ (s : ℕ). IsTable s c.args.high.now) (sym c.loop-i.invariant.planned.extends.space) (high_is c.args.pen.now.space c.args.high.now c.requires.high)

pub product_row-requires-in-loop-i-clause-small : goal.product_row-requires-in-loop-i-clause-small
product_row-requires-in-loop-i-clause-small c = subst (λ (s : ℕ). greatest_of c.args.high.now ≤ 2 ^ s - 1) (sym c.loop-i.invariant.planned.extends.space) (high_small c.args.pen.now.space c.args.high.now c.requires.high)

pub product_row-requires-in-loop-i-clause-room : goal.product_row-requires-in-loop-i-clause-room
product_row-requires-in-loop-i-clause-room c =
    let p = c.loop-i.invariant.planned in
    let o : 1 ≤ c.loop-i.i = c.loop-i.invariant.some in
    let l : c.loop-i.i < length c.args.a.now = omega arith in
    omega (arith, rows_room (length c.args.a.now) c.loop-i.i o l, p.jobs_in, p.extends.jobs_grow, c.requires.room, c.requires.same)

pub product_row-requires-in-loop-i-2-clause-first : goal.product_row-requires-in-loop-i-2-clause-first
product_row-requires-in-loop-i-2-clause-first c = block_now c.args.pen.now c.product_row-in-loop-i.new.pen (get_or c.args.a.now c.loop-i.i 0) (extends_onward c.args.pen.now c.loop-i.pen c.product_row-in-loop-i.new.pen c.loop-i.invariant.planned.extends c.in_ok-above.ensures.kept) (c.requires.first c.loop-i.i (omega arith))

pub product_row-requires-in-loop-i-2-clause-second : goal.product_row-requires-in-loop-i-2-clause-second
product_row-requires-in-loop-i-2-clause-second c = blocks_now c.args.pen.now c.product_row-in-loop-i.new.pen c.args.b.now (extends_onward c.args.pen.now c.loop-i.pen c.product_row-in-loop-i.new.pen c.loop-i.invariant.planned.extends c.in_ok-above.ensures.kept) c.requires.second

pub product_row-requires-in-loop-i-2-clause-nought : goal.product_row-requires-in-loop-i-2-clause-nought
product_row-requires-in-loop-i-2-clause-nought c = nought_kept c.args.pen.now c.product_row-in-loop-i.new.pen c.args.nought (extends_onward c.args.pen.now c.loop-i.pen c.product_row-in-loop-i.new.pen c.loop-i.invariant.planned.extends c.in_ok-above.ensures.kept) c.requires.nought

pub product_row-requires-in-loop-i-2-clause-table : goal.product_row-requires-in-loop-i-2-clause-table
product_row-requires-in-loop-i-2-clause-table c = subst (λ (s : ℕ). IsTable s c.args.low.now) (sym (extends_onward c.args.pen.now c.loop-i.pen c.product_row-in-loop-i.new.pen c.loop-i.invariant.planned.extends c.in_ok-above.ensures.kept).space) (low_is c.args.pen.now.space c.args.low.now c.requires.low)

pub product_row-requires-in-loop-i-2-clause-small : goal.product_row-requires-in-loop-i-2-clause-small
product_row-requires-in-loop-i-2-clause-small c = subst (λ (s : ℕ). greatest_of c.args.low.now ≤ 2 ^ s - 1) (sym (extends_onward c.args.pen.now c.loop-i.pen c.product_row-in-loop-i.new.pen c.loop-i.invariant.planned.extends c.in_ok-above.ensures.kept).space) (low_small c.args.pen.now.space c.args.low.now c.requires.low)

pub product_row-requires-in-loop-i-2-clause-room : goal.product_row-requires-in-loop-i-2-clause-room
product_row-requires-in-loop-i-2-clause-room c =
    let p = c.loop-i.invariant.planned in
    let q = c.in_ok-above.ensures.planned in
    let o : 1 ≤ c.loop-i.i = c.loop-i.invariant.some in
    let l : c.loop-i.i < length c.args.a.now = omega arith in
    omega (arith, rows_room (length c.args.a.now) c.loop-i.i o l, p.jobs_in, p.extends.jobs_grow, q.jobs_in, q.extends.jobs_grow, c.requires.room, c.requires.same)

pub returns-in_err-above-clause-kept : goal.returns-in_err-above-clause-kept
returns-in_err-above-clause-kept c = extends_onward c.args.pen.now c.loop-i.pen c.product_row-in-loop-i.new.pen c.loop-i.invariant.planned.extends c.product_row-in-loop-i.ensures.kept

pub returns-in_err-extend_from_slice-clause-kept : goal.returns-in_err-extend_from_slice-clause-kept
returns-in_err-extend_from_slice-clause-kept c = extends_onward c.args.pen.now c.loop-i.pen c.product_row-in-loop-i.new.pen c.loop-i.invariant.planned.extends c.product_row-in-loop-i.ensures.kept

pub returns-in_err-row-clause-kept : goal.returns-in_err-row-clause-kept
returns-in_err-row-clause-kept c =
    extends_onward c.args.pen.now c.product_row-in-loop-i.new.pen c.product_row-in-loop-i-2.new.pen
    (extends_onward c.args.pen.now c.loop-i.pen c.product_row-in-loop-i.new.pen c.loop-i.invariant.planned.extends c.product_row-in-loop-i.ensures.kept) c.product_row-in-loop-i-2.ensures.kept

pub returns-in_err-extend_from_slice-2-clause-kept : goal.returns-in_err-extend_from_slice-2-clause-kept
returns-in_err-extend_from_slice-2-clause-kept c =
    extends_onward c.args.pen.now c.product_row-in-loop-i.new.pen c.product_row-in-loop-i-2.new.pen
    (extends_onward c.args.pen.now c.loop-i.pen c.product_row-in-loop-i.new.pen c.loop-i.invariant.planned.extends c.product_row-in-loop-i.ensures.kept) c.product_row-in-loop-i-2.ensures.kept

pub loop-i-preserved : goal.loop-i-preserved
loop-i-preserved c =
    let r = c.requires in
    rw (c.in_ok-extend_from_slice-2.ensures.items, c.deref-in-loop-i.ensures.value, c.in_ok-extend_from_slice.ensures.items, c.deref.ensures.value)
    (rows_pair c.args.pen.now c.loop-i.pen c.product_row-in-loop-i.new.pen c.product_row-in-loop-i-2.new.pen c.loop-i.rows.items c.in_ok-above.above.items c.in_ok-row.row.items c.args.a.now c.args.b.now c.args.low.now c.args.high.now c.loop-i.i
    r.same r.first r.second (omega arith) c.loop-i.invariant c.in_ok-above.ensures.planned c.in_ok-row.ensures.planned)

pub returns-clause-kept : goal.returns-clause-kept
returns-clause-kept c = c.loop-i.invariant.planned.extends

pub returns-clause-planned : goal.returns-clause-planned
returns-clause-planned c =
    let e : c.loop-i.i ≡ length c.args.a.now = omega (arith, c.loop-i.invariant.some, c.requires.some) in
    products_planned c.args.pen.now c.loop-i.pen c.loop-i.rows.items c.args.a.now c.args.b.now c.args.low.now c.args.high.now c.requires.some
    (subst (λ (i : ℕ). PairRows c.args.pen.now c.loop-i.pen c.loop-i.rows.items c.args.a.now c.args.b.now c.args.low.now c.args.high.now i) e c.loop-i.invariant)

pub returns-clause-value : goal.returns-clause-value
returns-clause-value c =
    let e : c.loop-i.i ≡ length c.args.a.now = omega (arith, c.loop-i.invariant.some, c.requires.some) in
    products_number c.args.pen.now c.loop-i.pen c.loop-i.rows.items c.args.a.now c.args.b.now c.args.low.now c.args.high.now c.requires.some c.requires.same c.space-space.ensures.bounded c.requires.first c.requires.second c.requires.low c.requires.high
    (subst (λ (i : ℕ). PairRows c.args.pen.now c.loop-i.pen c.loop-i.rows.items c.args.a.now c.args.b.now c.args.low.now c.args.high.now i) e c.loop-i.invariant)
