use Rattle.std.proofs.Common.{◌≡◌, ◌<◌, ◌≤◌, sym, ap, ◌∙◌, arith, length}
use Rattle.std.proofs.lemmas.List.{same_lists, get_or_default}
use Rattle.rx_board.specs.Rule.{cell, BoardValue}
use Rattle.rx_board.proofs.board.Board.copy_cell.Goals as goal

pub returns-clause-words : goal.returns-clause-words
returns-clause-words g c = let inv = c.loop-q.invariant in
    let same : c.self.inside.width ≡ c.args.self.now.plan.width = sym c.self.invariant.2 ∙ ap (λ (b : BoardValue). b.plan.width) c.self.view_is in
    let some : 0 < c.self.inside.width = c.self.invariant.4.wide in
    let room : length c.loop-q.out ≡ c.args.self.now.plan.width = inv.room in
    let done : length c.args.out.now ≤ c.loop-q.q = c.loop-q-test.false in
    let given : length c.args.out.now ≡ c.args.self.now.plan.width = c.requires.room in
    let wide : length (cell c.args.self.now.plan c.args.job) ≡ c.args.self.now.plan.width = inv.wide (omega arith) in
    same_lists _ _ (room ∙ sym wide) (λ k d h. get_or_default c.loop-q.out k d 0 h ∙ (inv.copied k (omega arith) ∙ get_or_default (cell c.args.self.now.plan c.args.job) k 0 d (omega arith)))
