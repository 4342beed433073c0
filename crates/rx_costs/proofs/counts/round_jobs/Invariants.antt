use Rattle.std.proofs.Common.{◌≡◌, ◌+◌, ◌*◌, ◌≤◌}
use Rattle.rx_costs.specs.Rounds.{round_jobs}
use Rattle.rx_costs.proofs.counts.round_jobs.Given as goal

abbrev pub invariant-loop-terms : goal.invariant-loop-terms
invariant-loop-terms l =
    (l.jobs + round_jobs l.columns l.most l.terms ≡ round_jobs l.columns l.most l.count) × (l.jobs + 8192 * l.terms ≤ 8192 * l.count) × (l.terms ≤ l.count)

abbrev pub decreases-loop-terms : goal.decreases-loop-terms
decreases-loop-terms l = l.terms
