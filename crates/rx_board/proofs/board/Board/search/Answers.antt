use Rattle.rx_board.proofs.Seeks.{sought_later}
use Rattle.rx_board.proofs.board.Board.search.Goals as goal

pub returns-in-None-clause-sought : goal.returns-in-None-clause-sought
returns-in-None-clause-sought g c = sought_later c.args.self.now.plan c.args.seat.now.me.0 c.hunt.new.seat.me.0 c.seek.new.seat.me.0 c.hunt.ensures.grows c.seek.result c.seek.ensures.sought
