use Rattle.std.proofs.Common.{rules}
use Rattle.rx_board.proofs.Steps.{gives_back_at}
use Rattle.rx_board.proofs.board.Board.give_back.Goals as goal

pub store-requires : goal.store-requires
store-requires g c = (search rules, search rules, gives_back_at c.args.self.now _ c.self.view_is _ _ _ c.args.job _ c.state_word-place.ensures.place c.requires.seat.2 c.requires.held)
