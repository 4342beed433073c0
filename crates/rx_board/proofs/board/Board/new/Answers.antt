use Rattle.std.proofs.Common.{◌≡◌, rules, subst, length}
use Rattle.rx_board.specs.Rule.{plan_of, Opening}
use Rattle.rx_board.proofs.Opens.{opens}
use Rattle.rx_board.proofs.board.Board.new.Goals as goal

pub of_words-requires : goal.of_words-requires
of_words-requires g c = let e : c.in_ok-words.words.items ≡ c.as_slice.result.now = search rules in
    opens (plan_of g.K.JobWords.words_of (g.K.Kernel.basis c.of.result.value) c.args.net.now c.words-width.result c.args.inputs.now) c.as_slice.result.now
    (subst (Opening c.args.net.now c.words-width.result (length c.args.net.now.jobs) 0) e c.in_ok-words.ensures)
