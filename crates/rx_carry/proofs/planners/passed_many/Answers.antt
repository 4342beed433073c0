use Rattle.std.proofs.Common.{◌≡◌, ℕ, ◌≤◌, arith}
use Rattle.std.proofs.lemmas.Result.{IfOk-weaker}
use Rattle.rx_plan.proofs.PerBlock.{space_low}
use Rattle.rx_carry.proofs.Summed.{many_out}
use Rattle.rx_carry.proofs.planners.passed_many.Goals as goal

two : (r s : ℕ) → r ≡ s → 2 ≤ r → 2 ≤ s
two r s e h = omega arith

pub returns-clause-planned : goal.returns-clause-planned
returns-clause-planned c =
    let p = c.args.pen.now in
    IfOk-weaker c.top.result _ _ (λ k m. many_out c.args.operation p c.states.new.pen c.top.new.pen c.args.a.now c.args.b.now c.in_ok-states.states.items k c.args.invert c.requires.many c.requires.same c.requires.first c.requires.second
    (two c.space-space.result p.space c.space-space.ensures.value (space_low c.space-space.result c.space-space.ensures.known)) c.space-space.ensures.bounded c.in_ok-states.ensures.planned m) c.top.ensures.planned
