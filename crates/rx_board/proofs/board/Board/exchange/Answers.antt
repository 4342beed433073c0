use Rattle.std.proofs.Common.{rules}
use Rattle.rx_board.proofs.Steps.{claims_at}
use Rattle.rx_board.proofs.board.Board.exchange.Goals as goal

pub compare_exchange-requires : goal.compare_exchange-requires
compare_exchange-requires g c = (
  search rules,
  search rules,
  rw (c.requires.from, c.requires.to) (claims_at c.args.self.now _ c.self.view_is _ _ _ c.args.job _ c.state_word-place.ensures.place c.requires.seat.2 c.requires.seat.3 c.requires.job c.requires.ready),
)
