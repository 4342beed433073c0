use Rattle.std.proofs.Common.{rules, ◌∙◌, ap}
use Rattle.rx_board.specs.Rule.{count_place}
use Rattle.rx_board.proofs.Steps.{credits_at}
use Rattle.rx_board.proofs.board.Board.credit.Goals as goal

pub fetch_sub-requires : goal.fetch_sub-requires
fetch_sub-requires g c = (search rules, search rules, credits_at c.args.self.now _ c.self.view_is _ _ _ c.args.job c.args.done _ (c.count_word-place.ensures.place ∙ ap (count_place c.args.self.now.plan.width) c.owner.ensures.owner) c.requires.seat.2 c.requires.held c.owner.ensures.more c.requires.words)
