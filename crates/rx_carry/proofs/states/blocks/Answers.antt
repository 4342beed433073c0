use Rattle.std.proofs.Common.{◌≡◌, ℕ, ◌<◌, ◌≤◌, ◌-◌, ◌^◌, length, get_or, sym, arith, subst}
use Rattle.rx_plan.specs.Tables.{IsTable, HasEntries}
use Rattle.rx_plan.specs.Planned.{Planned}
use Rattle.rx_plan.proofs.PerBlock.{space_low}
use Rattle.rx_plan.proofs.Kept.{block_now, cell_kept}
use Rattle.rx_carry.specs.Carries.{digit_left}
use Rattle.rx_carry.proofs.BlockJobs.{EachThree, left_values, least_push, blocks_push, left_table_is}
use Rattle.rx_net.proofs.Grows.{extends_onward}
use Rattle.rx_carry.proofs.states.blocks.Goals as goal

pub look_up-requires-clause-table : goal.look_up-requires-clause-table
look_up-requires-clause-table c =
    let p = c.args.pen.now in
    let s : 2 ≤ p.space = omega (arith, c.space-space.ensures.value, space_low c.space-space.result c.space-space.ensures.known) in
    left_table_is c.args.operation p.space c.args.table.now s c.requires.table

pub loop-i-init : goal.loop-i-init
loop-i-init c =
    let p = c.args.pen.now in
    let s : 2 ≤ p.space = omega (arith, c.space-space.ensures.value, space_low c.space-space.result c.space-space.ensures.known) in
    let a1 : 0 < length c.args.a.now = omega arith in
    let b1 : 0 < length c.args.b.now = omega arith in
    record {
      some = omega arith;
      planned = rw (c.in_ok-push.ensures.items, c.new-cells.ensures.items) (least_push c.args.operation p c.look_up.new.pen c.args.a.now c.args.b.now c.args.carries.now c.args.table.now c.in_ok-least.least s
          c.space-space.ensures.bounded c.requires.first c.requires.second a1 b1 c.requires.table c.in_ok-least.ensures.makes);
    }

pub look_up_with-requires-clause-first : goal.look_up_with-requires-clause-first
look_up_with-requires-clause-first c = block_now c.args.pen.now c.loop-i.pen (get_or c.args.a.now c.loop-i.i 0) c.loop-i.invariant.planned.extends (c.requires.first c.loop-i.i (omega arith))

pub look_up_with-requires-clause-second : goal.look_up_with-requires-clause-second
look_up_with-requires-clause-second c = block_now c.args.pen.now c.loop-i.pen (get_or c.args.b.now c.loop-i.i 0) c.loop-i.invariant.planned.extends (c.requires.second c.loop-i.i (omega arith))

pub look_up_with-requires-clause-third : goal.look_up_with-requires-clause-third
look_up_with-requires-clause-third c = cell_kept c.args.pen.now c.loop-i.pen 1 (get_or c.args.carries.now (c.loop-i.i - 1) 0) c.loop-i.invariant.planned.extends (c.requires.third (c.loop-i.i - 1) (omega (arith, c.loop-i.invariant.some)))

pub look_up_with-requires-clause-table : goal.look_up_with-requires-clause-table
look_up_with-requires-clause-table c =
    let p = c.args.pen.now in
    let s : 2 ≤ p.space = omega (arith, c.space-space.ensures.value, space_low c.space-space.result c.space-space.ensures.known) in
    subst (λ (s : ℕ). IsTable s c.args.table.now) (sym c.loop-i.invariant.planned.extends.space) (left_table_is c.args.operation p.space c.args.table.now s c.requires.table)

pub look_up_with-requires-clause-room : goal.look_up_with-requires-clause-room
look_up_with-requires-clause-room c = let p = c.loop-i.invariant.planned in omega (arith, p.jobs_in, p.extends.jobs_grow, c.requires.room)

pub loop-i-preserved : goal.loop-i-preserved
loop-i-preserved c =
    let p = c.args.pen.now in
    let h = c.loop-i.invariant in
    let s : 2 ≤ p.space = omega (arith, c.space-space.ensures.value, space_low c.space-space.result c.space-space.ensures.known) in
    record {
      some = omega arith;
      planned = rw c.in_ok-push-2.ensures.items (blocks_push c.args.operation p c.loop-i.pen c.look_up_with.new.pen c.loop-i.cells.items c.args.a.now c.args.b.now c.args.carries.now c.args.table.now c.loop-i.i c.in_ok-cell.cell s
          c.requires.first c.requires.second c.requires.third (omega arith) (omega arith) h.some (omega arith) h.planned
          (subst (λ (s : ℕ). HasEntries s (digit_left c.args.operation (2 ^ s)) c.args.table.now) (sym h.planned.extends.space) c.requires.table) c.in_ok-cell.ensures.makes);
    }

pub returns-clause-planned : goal.returns-clause-planned
returns-clause-planned c =
    let p = c.args.pen.now in
    let e : c.loop-i.i ≡ length c.args.a.now = omega arith in
    subst (λ (n : ℕ). Planned p c.loop-i.pen c.loop-i.cells.items (λ _. 2 ^ p.space - 1) n n 1 (EachThree c.args.a.now c.args.b.now c.args.carries.now) (left_values c.args.operation p c.args.a.now c.args.b.now c.args.carries.now)) e
    c.loop-i.invariant.planned

pub returns-in_err-push-2-clause-kept : goal.returns-in_err-push-2-clause-kept
returns-in_err-push-2-clause-kept c = extends_onward c.args.pen.now c.loop-i.pen c.look_up_with.new.pen c.loop-i.invariant.planned.extends c.look_up_with.ensures.kept

pub returns-in_err-cell-clause-kept : goal.returns-in_err-cell-clause-kept
returns-in_err-cell-clause-kept c = extends_onward c.args.pen.now c.loop-i.pen c.look_up_with.new.pen c.loop-i.invariant.planned.extends c.look_up_with.ensures.kept
