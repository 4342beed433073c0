use Rattle.std.proofs.Common.{◌≡◌, ◌*◌, take}
use Rattle.rx_net.specs.Cells.{operand_words}
use Rattle.rx_uses.specs.Cells.{terms_at}
use Rattle.rx_board.proofs.board.Board.gather.Given as goal

abbrev pub invariant-loop-place : goal.invariant-loop-place
invariant-loop-place g l = record {
  table : l.seat.table_id ≡ l.initial.seat.table_id;
  id : l.seat.id ≡ l.initial.seat.id;
  me : l.seat.me ≡ l.initial.seat.me;
  gathered : take (l.place * l.self.plan.width) l.operands ≡ operand_words l.self.plan.cells (take l.place (terms_at l.self.plan.net.jobs l.job));
}
