use Rattle.std.proofs.Common.{◌∙◌}
use Rattle.rx_board.proofs.Views.{grows_on}
use Rattle.rx_board.proofs.board.Board.await_cell.Goals as goal

pub loop-preserved : goal.loop-preserved
loop-preserved g c = let inv = c.loop.invariant in record {
  of = c.read.ensures.seat.0;
  id = c.read.ensures.seat.1 ∙ inv.id;
  grows = grows_on _ _ _ inv.grows c.read.ensures.grows;
  room = c.read.auto.out ∙ inv.room;
}
