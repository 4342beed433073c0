use Rattle.std.proofs.Common.{ℕ, List, ◌-◌, ◌*◌, ◌^◌, length, subst}
use Rattle.std.proofs.lemmas.Result.{IfOk-weaker}
use Rattle.rx_plan.specs.Planned.{EachOf, Planned}
use Rattle.rx_shift.specs.Shifts.{stage_jobs}
use Rattle.rx_shift.proofs.Staging.{stages_say}
use Rattle.rx_shift.proofs.Whole.{low_planned}
use Rattle.rx_shift.proofs.shifts.moved_low.Goals as goal

pub returns-clause-planned : goal.returns-clause-planned
returns-clause-planned c =
    let two = c.nought.new.pen in
    let new = c.stages.new.pen in
    let d = c.args.direction in
    let a : List ℕ = c.args.a.now in
    let z = c.in_ok-nought.ensures in
    IfOk-weaker c.stages.result _ _ (λ cells q.
    low_planned c.args.pen.now c.low_bits.new.pen two new d a c.args.amount.now c.in_ok-bits.bits.items cells.items c.in_ok-nought.nought c.args.count
    c.space-space.ensures.bounded c.requires.first c.in_ok-bits.ensures.planned z.gives z.nought
    (subst (λ (bits : List ℕ). Planned two new cells.items (λ _. 2 ^ two.space - 1) (length a) (length bits * stage_jobs (length a)) (2 * length bits) (EachOf a bits) (stages_say two d a bits (length bits)))
    c.deref.ensures.value q)) c.stages.ensures.planned
