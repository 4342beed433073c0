use Rattle.std.proofs.Common.{rules, arith, subst}
use Rattle.rx_net.proofs.Bounded.{AreFirstWithin, one_more_within, all_within, not_within}
use Rattle.rx_net.proofs.evaluate.are_bounded.Goals as goal

pub loop-cell-init : goal.loop-cell-init
loop-cell-init c = λ k p. absurd (omega (arith, p))

pub returns-then-value-tags_at : goal.returns-then-value-tags_at
returns-then-value-tags_at c = (
  λ t. absurd (search (rules, t)),
  λ w. absurd (not_within c.args.space c.args.inputs.now c.args.values.now c.loop-cell.cell
      c.tags_at.result.degree c.loop-cell-test.true c.tags_at.ensures.degree c.if-value-tags_at.true w),
)

pub loop-cell-preserved : goal.loop-cell-preserved
loop-cell-preserved c = one_more_within c.args.space c.args.inputs.now c.args.values.now c.loop-cell.cell c.tags_at.result.degree
    c.loop-cell.invariant c.tags_at.ensures.degree c.if-value-tags_at.false

pub returns : goal.returns
returns c = (
  λ t. all_within c.args.space c.args.inputs.now c.args.values.now c.requires.count
      (subst (AreFirstWithin c.args.space c.args.inputs.now c.args.values.now) (omega (arith, c.loop-cell-test.false, c.loop-cell.auto.cell-end)) c.loop-cell.invariant),
  λ w. search rules,
)
