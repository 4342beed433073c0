use Rattle.std.proofs.Common.{get_or}
use Rattle.rx_net.specs.Cells.{degrees_after, noises_after}
use Rattle.rx_net.proofs.Sums.{IsSummed}
use Rattle.rx_net.proofs.tags.sum_tags.Given as goal

abbrev pub invariant-loop-term : goal.invariant-loop-term
invariant-loop-term l = IsSummed (λ c. get_or (degrees_after l.space l.inputs l.jobs) c 0) (λ c. get_or (noises_after l.space l.inputs l.jobs) c 0)
    l.constant l.terms l.term-index l.sums.low l.sums.high l.sums.noise
