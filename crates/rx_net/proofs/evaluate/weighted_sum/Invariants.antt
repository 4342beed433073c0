use Rattle.std.proofs.Common.{get_or}
use Rattle.rx_net.proofs.Evaluates.{IsSumUpTo}
use Rattle.rx_net.proofs.evaluate.weighted_sum.Given as goal

abbrev pub invariant-loop-term : goal.invariant-loop-term
invariant-loop-term l = IsSumUpTo (λ c. get_or l.values c 0) l.constant l.terms l.term-index l.sum
