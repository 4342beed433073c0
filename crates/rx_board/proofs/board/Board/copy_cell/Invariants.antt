use Rattle.std.proofs.Common.{◌≡◌, ℕ, ◌<◌, length, get_or}
use Rattle.rx_board.specs.Rule.{cell}
use Rattle.rx_board.proofs.board.Board.copy_cell.Given as goal

abbrev pub invariant-loop-q : goal.invariant-loop-q
invariant-loop-q g l = record {
  table : l.seat.table_id ≡ l.initial.seat.table_id;
  id : l.seat.id ≡ l.initial.seat.id;
  me : l.seat.me ≡ l.initial.seat.me;
  room : length l.out ≡ l.self.plan.width;
  wide : 0 < l.q → length (cell l.self.plan l.job) ≡ l.self.plan.width;
  copied : (k : ℕ) → k < l.q → get_or l.out k 0 ≡ get_or (cell l.self.plan l.job) k 0;
}
