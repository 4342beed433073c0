use Rattle.std.proofs.Common.{◌≡◌, ℕ, [], ◌<◌, ◌+◌, ◌*◌, ◌/◌, length, arith, subst}
use Rattle.rx_plan.specs.Values.{cell_value}
use Rattle.rx_plan.specs.Planned.{Each, Planned}
use Rattle.rx_plan.proofs.Kept.{cells_by_kept}
use Rattle.rx_plan.proofs.Planned.{planned_none}
use Rattle.rx_carry.specs.Carries.{tops_at}
use Rattle.std.proofs.Common.{min}
use Rattle.rx_carry.specs.Tree.{halved}
use Rattle.rx_carry.proofs.Trees.{halve_push, halve_room}
use Rattle.rx_carry.proofs.tree.halve.Goals as goal

pub loop-i-init : goal.loop-i-init
loop-i-init c =
    let n : ℕ = length c.args.nodes.now in
    let z : 0 ≡ min 0 (n / 2) = omega arith in
    rw c.new-cells.ensures.items (subst (λ (j : ℕ). Planned c.args.pen.now c.args.pen.now [] (tops_at 1) 0 j 1 (Each c.args.nodes.now) (λ xs i. halved n (cell_value c.args.pen.now c.args.nodes.now xs) i)) z
    (planned_none c.args.pen.now (tops_at 1) 1 (Each c.args.nodes.now) (λ xs i. halved n (cell_value c.args.pen.now c.args.nodes.now xs) i) c.space-space.ensures.bounded))

pub join-requires-clause-nodes : goal.join-requires-clause-nodes
join-requires-clause-nodes c = cells_by_kept c.args.pen.now c.loop-i.pen (tops_at 1) c.args.nodes.now c.loop-i.invariant.extends c.requires.nodes

pub join-requires-clause-table : goal.join-requires-clause-table
join-requires-clause-table c = rw c.loop-i.invariant.extends.space c.requires.table

pub join-requires-clause-room : goal.join-requires-clause-room
join-requires-clause-room c =
    let p = c.loop-i.invariant in
    omega (arith, halve_room (length c.args.nodes.now) c.loop-i.i (omega arith), p.jobs_in, p.extends.jobs_grow, c.requires.room)

pub loop-i-preserved : goal.loop-i-preserved
loop-i-preserved c =
    let l : 2 * c.loop-i.i < length c.args.nodes.now = omega arith in
    rw c.in_ok-push.ensures.items (halve_push c.args.pen.now c.loop-i.pen c.join.new.pen c.loop-i.cells.items c.args.nodes.now c.loop-i.i c.in_ok-cell.cell
    c.requires.nodes l c.loop-i.invariant c.in_ok-cell.ensures.gives c.in_ok-cell.ensures.deep c.in_ok-cell.ensures.value)

pub returns-clause-planned : goal.returns-clause-planned
returns-clause-planned c =
    let n : ℕ = length c.args.nodes.now in
    let e : c.loop-i.i ≡ (n + 1) / 2 = omega arith in
    let j : min c.loop-i.i (n / 2) ≡ n / 2 = omega arith in
    subst (λ (i : ℕ). Planned c.args.pen.now c.loop-i.pen c.loop-i.cells.items (tops_at 1) i (n / 2) 1 (Each c.args.nodes.now) (λ xs i. halved n (cell_value c.args.pen.now c.args.nodes.now xs) i)) e
    (subst (λ (j : ℕ). Planned c.args.pen.now c.loop-i.pen c.loop-i.cells.items (tops_at 1) c.loop-i.i j 1 (Each c.args.nodes.now) (λ xs i. halved n (cell_value c.args.pen.now c.args.nodes.now xs) i)) j c.loop-i.invariant)
