use Rattle.std.proofs.Common.{◌≡◌, length}
use Rattle.rx_board.specs.Seats.{IsOf}
use Rattle.rx_board.specs.Tells.{Grows}
use Rattle.rx_board.proofs.board.Board.await_cell.Given as goal

abbrev pub invariant-loop : goal.invariant-loop
invariant-loop g l = record {
  of : IsOf l.self l.seat;
  id : l.seat.id ≡ l.initial.seat.id;
  grows : Grows l.initial.seat.view l.seat.view;
  room : length l.out ≡ l.self.plan.width;
}
