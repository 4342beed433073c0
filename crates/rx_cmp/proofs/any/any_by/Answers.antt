use Rattle.std.proofs.Common.{◌≡◌, ◌≤◌, ◌-◌, ◌^◌, ℕ, List, length, get_or, ◌∙◌, sym, ap, arith, subst}
use Rattle.std.proofs.lemmas.Result.{IfOk-weaker}
use Rattle.std.proofs.lemmas.Nat.{pow_pos}
use Rattle.rx_params.specs.Derived.{noise_limit}
use Rattle.rx_net.specs.Cells.{degree}
use Rattle.rx_plan.specs.Tables.{HasEntries}
use Rattle.rx_plan.specs.Values.{cell_value, total}
use Rattle.rx_plan.specs.Planned.{Each, Makes, Planned}
use Rattle.rx_costs.specs.Rounds.{groups}
use Rattle.rx_carry.specs.Carries.{flipped}
use Rattle.rx_cmp.specs.Groups.{is_some, grouped}
use Rattle.rx_cmp.proofs.Grouping.{part_range, part_noises}
use Rattle.rx_cmp.proofs.Nodes.{groups_two, groups_fall, nodes_start, nodes_more, nodes_end, nodes_blocks}
use Rattle.rx_cmp.proofs.any.any_by.Goals as goal

pub loop-pen-init : goal.loop-pen-init
loop-pen-init c = nodes_start c.args.pen.now c.args.nodes.items c.args.most c.space-space.ensures.bounded c.requires.blocks c.requires.some

pub loop-pen-preserved : goal.loop-pen-preserved
loop-pen-preserved c =
    let l = c.loop-pen in
    let now = l.pen in
    let new = c.gather.new.pen in
    let most : ℕ = c.args.most in
    let xs : List ℕ = l.nodes.items in
    let ds : List ℕ = c.in_ok-nodes.nodes.items in
    let q = subst (λ (cs : List ℕ). Planned now new ds (λ _. 2 ^ now.space - 1) (groups most (length cs)) (length cs - groups most (length cs)) 1 (Each cs) (λ ys i. grouped most (length cs) (cell_value now cs ys) i))
    c.deref.ensures.value c.in_ok-nodes.ensures.planned in
    let two : 2 ≤ most = omega (arith, pow_pos c.args.pen.now.space) in
    nodes_more c.args.pen.now now new c.args.nodes.items xs ds most two (omega arith) l.invariant q

pub loop-pen-smaller : goal.loop-pen-smaller
loop-pen-smaller c =
    let n : length c.deref.result.now ≡ length c.loop-pen.nodes.items = ap length c.deref.ensures.value in
    let two : 2 ≤ c.args.most = omega (arith, pow_pos c.args.pen.now.space) in
    let f = groups_fall c.args.most (length c.deref.result.now) two (omega arith) in
    omega (arith, c.in_ok-nodes.ensures.planned.count_is)

pub gather-requires-clause-room : goal.gather-requires-clause-room
gather-requires-clause-room c =
    let r = c.loop-pen.invariant in
    let p = r.planned in
    let n : length c.deref.result.now ≡ length c.loop-pen.nodes.items = ap length c.deref.ensures.value in
    let two = groups_two c.args.most (length c.deref.result.now) (omega arith) (omega arith) in
    omega (arith, r.fewer, p.jobs_in, p.extends.jobs_grow, c.requires.room)

pub sum-requires-clause-range : goal.sum-requires-clause-range
sum-requires-clause-range c =
    let r = c.loop-pen.invariant in
    let now = c.loop-pen.pen in
    let e = c.deref-2.ensures.value in
    let n : length c.deref-2.result.now ≡ length c.loop-pen.nodes.items = ap length e in
    let m : c.args.most ≡ noise_limit now.space = c.requires.most ∙ ap noise_limit (sym r.planned.extends.space) in
    part_range now c.deref-2.result.now (omega arith) (nodes_blocks c.args.pen.now now c.args.nodes.items c.loop-pen.nodes.items c.deref-2.result.now c.args.most r e)

pub sum-requires-clause-noises : goal.sum-requires-clause-noises
sum-requires-clause-noises c =
    let r = c.loop-pen.invariant in
    let now = c.loop-pen.pen in
    let e = c.deref-2.ensures.value in
    let n : length c.deref-2.result.now ≡ length c.loop-pen.nodes.items = ap length e in
    let m : c.args.most ≡ noise_limit now.space = c.requires.most ∙ ap noise_limit (sym r.planned.extends.space) in
    part_noises now c.deref-2.result.now (omega arith) (nodes_blocks c.args.pen.now now c.args.nodes.items c.loop-pen.nodes.items c.deref-2.result.now c.args.most r e)

pub returns-clause-planned : goal.returns-clause-planned
returns-clause-planned c =
    let r = c.loop-pen.invariant in
    let p = c.args.pen.now in
    let now = c.loop-pen.pen in
    let new = c.sum.new.pen in
    let xs : List ℕ = c.loop-pen.nodes.items in
    let last : List ℕ = c.args.last.now in
    let m : c.args.most ≡ noise_limit now.space = c.requires.most ∙ ap noise_limit (sym r.planned.extends.space) in
    let h = subst (λ (s : ℕ). HasEntries s (λ i. flipped c.args.invert (is_some i)) last) (sym r.planned.extends.space) c.requires.last in
    IfOk-weaker c.sum.result _ _ (λ k makes. λ t n.
    nodes_end p now new c.args.nodes.items xs k c.args.invert last c.args.most t m (omega arith) r h
    (subst (λ (cs : List ℕ). Makes now new k (Each cs) (total (length cs) (λ i. degree now (get_or cs i 0))) (λ v. total (length cs) (λ i. v (get_or cs i 0))) last) c.deref-2.ensures.value makes) n) c.sum.ensures.makes
