use Rattle.std.proofs.Common.{rules}
use Rattle.rx_board.proofs.Steps.{reads_at}
use Rattle.rx_board.proofs.board.Board.read_word.Goals as goal

pub load-requires : goal.load-requires
load-requires g c = (search rules, search rules, reads_at c.args.self.now _ c.self.view_is _ _ _ c.args.job c.args.q _ c.cell_word-place.ensures.place c.requires.seat.2 c.requires.job c.requires.may c.requires.q)

pub returns-clause-view : goal.returns-clause-view
returns-clause-view g c = (c.load.ensures.2 c.args.self.now.plan c.args.job c.args.q c.requires.seat.2 c.requires.job c.requires.q c.cell_word-place.ensures.place).0

pub returns-clause-word : goal.returns-clause-word
returns-clause-word g c = let told = c.load.ensures.2 c.args.self.now.plan c.args.job c.args.q c.requires.seat.2 c.requires.job c.requires.q c.cell_word-place.ensures.place in (told.2, told.3)
