use Rattle.std.proofs.Common.{◌≡◌, ◌≤◌}
use Rattle.rx_board.specs.Closing.{present_below}
use Rattle.rx_board.proofs.closed.Closed.count.Given as goal

abbrev pub invariant-loop-job : goal.invariant-loop-job
invariant-loop-job l = (l.count ≡ present_below l.self l.job) × (l.count ≤ l.job)
