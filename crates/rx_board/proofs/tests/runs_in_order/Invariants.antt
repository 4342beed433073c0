use Rattle.std.proofs.Common.{◌≡◌}
use Rattle.rx_board.specs.Seats.{IsOf}
use Rattle.rx_board.proofs.tests.runs_in_order.Given as goal

abbrev pub invariant-loop-job : goal.invariant-loop-job
invariant-loop-job g l = IsOf l.board l.worker.seat × (l.worker.desk ≡ 1)
