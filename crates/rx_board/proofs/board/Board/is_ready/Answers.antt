use Rattle.std.proofs.Common.{◌≡◌, ◌≤◌, ℕ, rules, ap, ◌∙◌, arith, length, below_more}
use Rattle.std.specs.Prelude.{Contains}
use Rattle.rx_uses.specs.Cells.{terms_at}
use Rattle.rx_board.specs.Rule.{IsOperandAt}
use Rattle.rx_board.proofs.Views.{grows_on, waits_earlier}
use Rattle.rx_board.proofs.board.Board.is_ready.Goals as goal

pub returns-then-not-has_operand-clause-grows : goal.returns-then-not-has_operand-clause-grows
returns-then-not-has_operand-clause-grows g c = grows_on _ _ _ c.loop-place.invariant.grows c.has_operand.ensures.grows

pub returns-then-not-has_operand-clause-waits : goal.returns-then-not-has_operand-clause-waits
returns-then-not-has_operand-clause-waits g c = λ _. (c.loop-place.place, waits_earlier _ _ _ _ _ _ c.loop-place.invariant.grows (c.has_operand.ensures.waits (search rules)))

pub loop-place-preserved : goal.loop-place-preserved
loop-place-preserved g c = record {
  idle = c.has_operand.ensures.seat.0;
  id = c.has_operand.ensures.seat.1 ∙ c.loop-place.invariant.id;
  grows = grows_on _ _ _ c.loop-place.invariant.grows c.has_operand.ensures.grows;
  known = λ k o l at. below_more (λ (z : ℕ). IsOperandAt c.args.self.now.plan c.args.job z o → Contains c.has_operand.new.seat.me.0.known o) c.loop-place.place
      (λ z m a. c.has_operand.ensures.grows.known o (c.loop-place.invariant.known z o m a)) (λ a. c.has_operand.ensures.there (search rules) o a) k l at;
}

pub returns-clause-ready : goal.returns-clause-ready
returns-clause-ready g c = λ _. let e : c.job.result.now.terms ≡ c.as_slice-count.result.now = search rules in
    let all : length (terms_at c.args.self.now.plan.net.jobs c.args.job) ≡ length c.as_slice-count.result.now = ap length c.job.ensures.is ∙ ap length e in
    let done : length c.as_slice-count.result.now ≤ c.loop-place.place = c.loop-place-test.false in
    record { all = λ k o at. let w = at.within in c.loop-place.invariant.known k o (omega arith) at }
