use Rattle.std.proofs.Common.{◌≡◌, ℕ, ◌<◌}
use Rattle.std.specs.Prelude.{Contains}
use Rattle.rx_board.specs.Seats.{IsIdleSeatOf}
use Rattle.rx_board.specs.Tells.{Grows}
use Rattle.rx_board.proofs.board.Board.known_from.Given as goal

abbrev pub invariant-loop-job : goal.invariant-loop-job
invariant-loop-job g l = record {
  idle : IsIdleSeatOf l.self l.seat;
  id : l.seat.id ≡ l.initial.seat.id;
  grows : Grows l.initial.seat.me.0 l.seat.me.0;
  here : l.below ≡ l.job;
  known : (k : ℕ) → k < l.job → Contains l.seat.me.0.known k;
}
