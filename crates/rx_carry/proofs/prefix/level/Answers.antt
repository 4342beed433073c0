use Rattle.std.proofs.Common.{ℕ, List, [], ◌*◌, ◌/◌, ◌%◌, length, sym, arith, subst}
use Rattle.rx_plan.specs.Values.{cell_value}
use Rattle.rx_plan.specs.Planned.{Each, Planned}
use Rattle.rx_plan.proofs.Kept.{cells_by_kept}
use Rattle.rx_plan.proofs.Planned.{planned_none}
use Rattle.rx_carry.specs.Carries.{tops_at}
use Rattle.rx_plan.proofs.Totals.{total_none}
use Rattle.rx_carry.specs.Prefix.{stepped}
use Rattle.rx_carry.proofs.Prefixes.{level_push, level_room}
use Rattle.rx_carry.proofs.prefix.level.Goals as goal

pub loop-i-init : goal.loop-i-init
loop-i-init c =
    let p = c.args.pen.now in
    let says : List ℕ → ℕ → ℕ = λ xs i. stepped c.args.span (cell_value p c.args.states.now xs) i in
    rw c.new-cells.ensures.items (subst (λ (j : ℕ). Planned p p [] (tops_at (2 * c.args.span)) 0 j 1 (Each c.args.states.now) says) (sym (total_none (λ i. i / c.args.span % 2)))
    (planned_none p (tops_at (2 * c.args.span)) 1 (Each c.args.states.now) says c.space-space.ensures.bounded))

pub advance-requires-clause-states : goal.advance-requires-clause-states
advance-requires-clause-states c = cells_by_kept c.args.pen.now c.loop-i.pen (tops_at c.args.span) c.args.states.now c.loop-i.invariant.extends c.requires.states

pub advance-requires-clause-table : goal.advance-requires-clause-table
advance-requires-clause-table c = rw c.loop-i.invariant.extends.space c.requires.table

pub advance-requires-clause-room : goal.advance-requires-clause-room
advance-requires-clause-room c =
    let p = c.loop-i.invariant in
    omega (arith, level_room c.args.span c.loop-i.i (length c.args.states.now) c.loop-i-test.true, p.jobs_in, p.extends.jobs_grow, c.requires.room)

pub loop-i-preserved : goal.loop-i-preserved
loop-i-preserved c =
    rw c.in_ok-push.ensures.items (level_push c.args.pen.now c.loop-i.pen c.advance.new.pen c.loop-i.cells.items c.args.states.now c.args.span c.loop-i.i c.in_ok-cell.cell
    c.requires.span c.requires.states c.loop-i-test.true c.loop-i.invariant c.in_ok-cell.ensures.gives c.in_ok-cell.ensures.deep c.in_ok-cell.ensures.value)
