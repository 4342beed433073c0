use Rattle.std.proofs.Common.{rules}
use Rattle.rx_board.proofs.Steps.{stores_at}
use Rattle.rx_board.proofs.board.Board.store_word.Goals as goal

pub store-requires : goal.store-requires
store-requires g c = (search rules, search rules, stores_at c.args.self.now _ c.self.view_is _ _ _ c.args.job c.args.q _ _ c.cell_word-place.ensures.place c.requires.seat.2 c.requires.held c.requires.q c.requires.word)

pub returns-clause-view : goal.returns-clause-view
returns-clause-view g c = c.store.ensures.2 c.args.self.now.plan c.args.job c.args.q c.requires.seat.2 c.requires.held c.cell_word-place.ensures.place
