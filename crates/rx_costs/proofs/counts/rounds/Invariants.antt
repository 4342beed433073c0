use Rattle.std.proofs.Common.{◌≡◌, ◌+◌, ◌≤◌}
use Rattle.rx_costs.specs.Rounds.{rounds}
use Rattle.rx_costs.proofs.counts.rounds.Given as goal

abbrev pub invariant-loop-terms : goal.invariant-loop-terms
invariant-loop-terms l = (l.made + rounds l.most l.terms ≡ rounds l.most l.count) × (l.made + l.terms ≤ l.count)

abbrev pub decreases-loop-terms : goal.decreases-loop-terms
decreases-loop-terms l = l.terms
