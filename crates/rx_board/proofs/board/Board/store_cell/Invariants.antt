use Rattle.std.proofs.Common.{◌≡◌}
use Rattle.std.specs.Prelude.{Some}
use Rattle.rx_board.specs.Rule.{holding}
use Rattle.rx_board.proofs.board.Board.store_cell.Given as goal

abbrev pub invariant-loop-q : goal.invariant-loop-q
invariant-loop-q g l = record {
  table : l.seat.table_id ≡ l.initial.seat.table_id;
  id : l.seat.id ≡ l.initial.seat.id;
  me : l.seat.me ≡ (record l.initial.seat.me.0 { held = Some (holding l.job l.q 0) }, l.initial.seat.me.1);
}
