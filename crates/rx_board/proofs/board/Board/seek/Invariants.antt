use Rattle.std.proofs.Common.{◌≡◌}
use Rattle.rx_board.specs.Seats.{IsIdleSeatOf}
use Rattle.rx_board.proofs.Seeks.{Searched}
use Rattle.rx_board.proofs.board.Board.seek.Given as goal

abbrev pub invariant-loop-job : goal.invariant-loop-job
invariant-loop-job g l = record {
  idle : IsIdleSeatOf l.self l.seat;
  id : l.seat.id ≡ l.initial.seat.id;
  searched : Searched l.self.plan l.initial.seat.me.0 l.seat.me.0 l.job l.taken;
}
