use Rattle.std.proofs.Common.{ℕ, ◌≤◌, ◌^◌, get_or, sym, arith, subst}
use Rattle.rx_plan.specs.Tables.{IsTable, HasEntries}
use Rattle.rx_plan.specs.Planned.{EachOf}
use Rattle.rx_plan.proofs.PerBlock.{space_low}
use Rattle.rx_plan.proofs.Kept.{block_now}
use Rattle.rx_plan.proofs.Planned.{planned_none}
use Rattle.rx_carry.specs.Carries.{state_at, tops_at}
use Rattle.rx_carry.proofs.BlockJobs.{state_values, states_push, place_table, state_table_is}
use Rattle.rx_carry.proofs.states.states.Goals as goal

pub loop-i-init : goal.loop-i-init
loop-i-init c = rw c.new-cells.ensures.items (planned_none c.args.pen.now (tops_at 1) 1 (EachOf c.args.a.now c.args.b.now) (state_values c.args.operation c.args.pen.now c.args.a.now c.args.b.now) c.space-space.ensures.bounded)

pub look_up-requires-clause-first : goal.look_up-requires-clause-first
look_up-requires-clause-first c = block_now c.args.pen.now c.loop-i.pen (get_or c.args.a.now c.loop-i.i 0) c.loop-i.invariant.extends (c.requires.first c.loop-i.i (omega arith))

pub look_up-requires-clause-second : goal.look_up-requires-clause-second
look_up-requires-clause-second c = block_now c.args.pen.now c.loop-i.pen (get_or c.args.b.now c.loop-i.i 0) c.loop-i.invariant.extends (c.requires.second c.loop-i.i (omega arith))

pub look_up-requires-clause-room : goal.look_up-requires-clause-room
look_up-requires-clause-room c = omega (arith, c.loop-i.invariant.jobs_in, c.loop-i.invariant.extends.jobs_grow, c.requires.room)

pub look_up-requires-clause-table : goal.look_up-requires-clause-table
look_up-requires-clause-table c =
    let p = c.args.pen.now in
    let e = c.loop-i.invariant.extends.space in
    let h : HasEntries p.space (state_at c.args.operation (2 ^ p.space) c.loop-i.i) c.table_at.result.now =
    place_table c.args.operation p.space c.loop-i.i c.args.tables.now.first.items c.args.tables.now.rest.items c.table_at.result.now c.table_at.ensures c.requires.first_table c.requires.rest_table in
    let s : 2 ≤ p.space = omega (arith, c.space-space.ensures.value, space_low c.space-space.result c.space-space.ensures.known) in
    subst (λ (s : ℕ). IsTable s c.table_at.result.now) (sym e) (state_table_is c.args.operation p.space c.loop-i.i c.table_at.result.now s h)

pub loop-i-preserved : goal.loop-i-preserved
loop-i-preserved c =
    let p = c.args.pen.now in
    let e = c.loop-i.invariant.extends.space in
    let h : HasEntries p.space (state_at c.args.operation (2 ^ p.space) c.loop-i.i) c.table_at.result.now =
    place_table c.args.operation p.space c.loop-i.i c.args.tables.now.first.items c.args.tables.now.rest.items c.table_at.result.now c.table_at.ensures c.requires.first_table c.requires.rest_table in
    let s : 2 ≤ p.space = omega (arith, c.space-space.ensures.value, space_low c.space-space.result c.space-space.ensures.known) in
    rw c.in_ok-push.ensures.items (states_push c.args.operation p c.loop-i.pen c.look_up.new.pen c.loop-i.cells.items c.args.a.now c.args.b.now c.table_at.result.now c.loop-i.i c.in_ok-cell.cell s
    c.requires.first c.requires.second (omega arith) (omega arith) c.loop-i.invariant
    (subst (λ (s : ℕ). HasEntries s (state_at c.args.operation (2 ^ s) c.loop-i.i) c.table_at.result.now) (sym e) h) c.in_ok-cell.ensures.makes)
