use Rattle.std.proofs.Common.{◌≡◌, ℕ, List, ◌<◌, ◌≤◌, ◌+◌, ◌/◌, length, ap, arith, subst}
use Rattle.rx_plan.specs.Values.{cell_value}
use Rattle.rx_plan.specs.Planned.{Each, Planned}
use Rattle.rx_carry.specs.Carries.{tops_at}
use Rattle.rx_net.proofs.Grows.{extends_onward}
use Rattle.rx_carry.specs.Tree.{halved}
use Rattle.rx_carry.proofs.Trees.{tree_start, tree_more, tree_two, two_carry}
use Rattle.rx_carry.proofs.tree.two_nodes.Goals as goal

pub loop-pen-init : goal.loop-pen-init
loop-pen-init c = tree_start c.args.pen.now c.args.states.items c.space-space.ensures.bounded c.requires.states c.requires.two

pub loop-pen-preserved : goal.loop-pen-preserved
loop-pen-preserved c =
    let now = c.loop-pen.pen in
    let new = c.halve.new.pen in
    let ds : List ℕ = c.in_ok-nodes.nodes.items in
    let q = subst (λ (cs : List ℕ). Planned now new ds (tops_at 1) ((length cs + 1) / 2) (length cs / 2) 1 (Each cs) (λ xs i. halved (length cs) (cell_value now cs xs) i)) c.deref.ensures.value c.in_ok-nodes.ensures.planned in
    let l : 2 < length c.loop-pen.nodes.items = omega arith in
    tree_more c.args.pen.now now new c.args.states.items c.loop-pen.nodes.items ds l c.loop-pen.invariant q

pub loop-pen-smaller : goal.loop-pen-smaller
loop-pen-smaller c =
    let n : length c.deref.result.now ≡ length c.loop-pen.nodes.items = ap length c.deref.ensures.value in
    omega (arith, c.in_ok-nodes.ensures.planned.count_is)

pub halve-requires-clause-few : goal.halve-requires-clause-few
halve-requires-clause-few c =
    let n : length c.deref.result.now ≡ length c.loop-pen.nodes.items = ap length c.deref.ensures.value in
    omega (arith, c.loop-pen.invariant.fewer)

pub halve-requires-clause-nodes : goal.halve-requires-clause-nodes
halve-requires-clause-nodes c = rw c.deref.ensures.value c.loop-pen.invariant.planned.cells_are

pub halve-requires-clause-table : goal.halve-requires-clause-table
halve-requires-clause-table c = rw c.loop-pen.invariant.planned.extends.space c.requires.table

pub halve-requires-clause-room : goal.halve-requires-clause-room
halve-requires-clause-room c =
    let p = c.loop-pen.invariant.planned in
    let n : length c.deref.result.now ≡ length c.loop-pen.nodes.items = ap length c.deref.ensures.value in
    omega (arith, c.loop-pen.invariant.fewer, p.jobs_in, p.extends.jobs_grow, c.requires.room)

pub returns-in_err-nodes-clause-kept : goal.returns-in_err-nodes-clause-kept
returns-in_err-nodes-clause-kept c = extends_onward c.args.pen.now c.loop-pen.pen c.halve.new.pen c.loop-pen.invariant.planned.extends c.halve.ensures.kept

pub returns-clause-planned : goal.returns-clause-planned
returns-clause-planned c =
    let l : length c.loop-pen.nodes.items ≤ 2 = omega arith in
    tree_two c.args.pen.now c.loop-pen.pen c.args.states.items c.loop-pen.nodes.items l c.loop-pen.invariant

pub returns-clause-value : goal.returns-clause-value
returns-clause-value c =
    let l : length c.loop-pen.nodes.items ≤ 2 = omega arith in
    two_carry c.args.pen.now c.loop-pen.pen c.args.states.items c.loop-pen.nodes.items l c.loop-pen.invariant
