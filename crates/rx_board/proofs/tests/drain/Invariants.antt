use Rattle.std.proofs.Common.{◌≡◌}
use Rattle.rx_board.specs.Seats.{IsOf}
use Rattle.rx_board.proofs.tests.drain.Given as goal

abbrev pub invariant-loop : goal.invariant-loop
invariant-loop l = IsOf l.board l.worker.seat × (l.worker.desk ≡ 1)
