use Rattle.std.proofs.Common.{◌≡◌, ◌<◌, ◌≤◌, ◌+◌, ◌-◌, ◌*◌, ◌^◌, ℕ, List, length, min, ◌∙◌, arith, subst}
use Rattle.rx_net.specs.Cells.{value}
use Rattle.rx_net.proofs.Grows.{extends_onward}
use Rattle.rx_plan.specs.Values.{AreInputs, cell_value}
use Rattle.rx_plan.specs.Planned.{Each, Gives, Planned}
use Rattle.rx_costs.specs.Rounds.{groups}
use Rattle.rx_costs.proofs.Groupings.{groups_hold, group_start}
use Rattle.rx_cmp.specs.Groups.{joined, grouped}
use Rattle.rx_cmp.proofs.Grouping.{groups_counted, size_is, gather_push, gather_room, up_to}
use Rattle.rx_cmp.proofs.any.gather.Goals as goal

pub join-requires-clause-room : goal.join-requires-clause-room
join-requires-clause-room c =
    let l = c.loop-i in
    let p = l.invariant in
    let most : ℕ = c.args.most in
    let n : ℕ = length c.args.nodes.now in
    let q : ℕ = groups most n in
    let e = groups_counted most n in
    let i : l.i < q = omega (arith, c.loop-i-test.true, c.div_ceil-i-end.ensures) in
    let here : l.i * most < n = group_start most n l.i (omega arith) i in
    let last : (q - 1) * most < n = group_start most n (q - 1) (omega arith) (omega arith) in
    let r = gather_room most n l.i q (omega arith) i last (groups_hold most n (omega arith)) in
    let sz : c.size_of-size.result ≡ min most (n - l.i * most) = c.size_of-size.ensures.size ∙ size_is most n l.i in
    let up = up_to most l.i (omega arith) in
    omega (arith, p.jobs_in, p.extends.jobs_grow, c.requires.room)

pub returns-in_err-push-clause-kept : goal.returns-in_err-push-clause-kept
returns-in_err-push-clause-kept c = extends_onward c.args.pen.now c.loop-i.pen c.join.new.pen c.loop-i.invariant.extends c.in_ok-cell.ensures.kept

pub loop-i-preserved : goal.loop-i-preserved
loop-i-preserved c =
    let l = c.loop-i in
    let most : ℕ = c.args.most in
    let nodes : List ℕ = c.args.nodes.now in
    let n : ℕ = length nodes in
    let now = l.pen in
    let new = c.join.new.pen in
    let cell : ℕ = c.in_ok-cell.cell in
    let i : l.i < groups most n = omega (arith, groups_counted most n, c.loop-i-test.true, c.div_ceil-i-end.ensures) in
    let here : l.i * most < n = group_start most n l.i (omega arith) i in
    let one : 1 ≤ most = omega arith in
    let sz = c.size_of-size.ensures.size in
    let g = subst (λ (k : ℕ). Gives now new cell (2 ^ now.space - 1) (k - 1)) sz c.in_ok-cell.ensures.gives in
    let v = subst (λ (k : ℕ). (xs : List ℕ) → AreInputs now xs → value new xs cell ≡ joined k (λ j. cell_value now nodes xs (l.i * most + j))) sz c.in_ok-cell.ensures.value in
    rw c.in_ok-push.ensures.items (gather_push c.args.pen.now now new l.cells.items nodes most l.i cell c.requires.blocks here one (up_to most l.i one) l.invariant g c.in_ok-cell.ensures.deep v)

pub returns-clause-planned : goal.returns-clause-planned
returns-clause-planned c =
    let p = c.args.pen.now in
    let l = c.loop-i in
    let most : ℕ = c.args.most in
    let nodes : List ℕ = c.args.nodes.now in
    let n : ℕ = length nodes in
    let q : ℕ = groups most n in
    let hold = groups_hold most n (omega arith) in
    let e : l.i ≡ q = omega (arith, groups_counted most n, c.div_ceil-i-end.ensures) in
    let j : min (q * most) n - q ≡ n - q = omega arith in
    subst (λ (j : ℕ). Planned p l.pen l.cells.items (λ _. 2 ^ p.space - 1) q j 1 (Each nodes) (λ xs i. grouped most n (cell_value p nodes xs) i)) j
    (subst (λ (i : ℕ). Planned p l.pen l.cells.items (λ _. 2 ^ p.space - 1) i (min (i * most) n - i) 1 (Each nodes) (λ xs i. grouped most n (cell_value p nodes xs) i)) e l.invariant)
