use Rattle.std.proofs.Common.{◌≡◌, ℕ, List, ◌≤◌, ◌-◌, ◌^◌, length, ap, arith, subst}
use Rattle.std.proofs.lemmas.Result.{IfOk-weaker}
use Rattle.rx_plan.specs.Planned.{Planned}
use Rattle.rx_plan.proofs.PerBlock.{space_low}
use Rattle.rx_carry.specs.Prefix.{ones_below}
use Rattle.rx_carry.proofs.BlockJobs.{EachThree, left_values}
use Rattle.rx_carry.proofs.Summed.{ones_le, blocks_planned}
use Rattle.rx_carry.proofs.planners.cells_of.Goals as goal

two : (r s : ℕ) → r ≡ s → 2 ≤ r → 2 ≤ s
two r s e h = omega arith

pub prefix-requires-clause-room : goal.prefix-requires-clause-room
prefix-requires-clause-room c =
    let p = c.in_ok-states.ensures.planned in
    let n : ℕ = length c.args.a.now in
    omega (arith, ones_le (n - 1) n (omega arith), ap ones_below p.count_is, p.jobs_in, p.extends.jobs_grow, c.requires.room, c.requires.some)

pub blocks-requires-clause-room : goal.blocks-requires-clause-room
blocks-requires-clause-room c =
    let p = c.in_ok-states.ensures.planned in
    let q = c.in_ok-carries.ensures.planned in
    let n : ℕ = length c.args.a.now in
    omega (arith, ones_le (n - 1) n (omega arith), ap ones_below p.count_is, p.jobs_in, p.extends.jobs_grow, q.jobs_in, q.extends.jobs_grow, c.requires.room, c.requires.some)

pub returns-clause-planned : goal.returns-clause-planned
returns-clause-planned c =
    let p = c.args.pen.now in
    let a : List ℕ = c.args.a.now in
    let b : List ℕ = c.args.b.now in
    let cs : List ℕ = c.in_ok-carries.carries.items in
    let s2 = c.prefix.new.pen in
    IfOk-weaker c.blocks-2.result _ _ (λ rs q.
    blocks_planned c.args.operation p c.states.new.pen s2 c.blocks-2.new.pen a b c.in_ok-states.states.items cs rs.items c.requires.some c.requires.same c.requires.first c.requires.second
    c.in_ok-states.ensures.planned c.in_ok-carries.ensures.planned
    (subst (λ (cs : List ℕ). Planned s2 c.blocks-2.new.pen rs.items (λ _. 2 ^ s2.space - 1) (length a) (length a) 1 (EachThree a b cs) (left_values c.args.operation s2 a b cs)) c.deref-2.ensures.value q)
    (two c.space-space.result p.space c.space-space.ensures.value (space_low c.space-space.result c.space-space.ensures.known)) c.space-space.ensures.bounded) c.blocks-2.ensures.planned
