use Rattle.rx_net.proofs.Evaluates.{IsDeepestUpTo}
use Rattle.rx_net.proofs.evaluate.deepest.Given as goal

abbrev pub invariant-loop-term : goal.invariant-loop-term
invariant-loop-term l = IsDeepestUpTo l.depths l.terms l.term-index l.most
