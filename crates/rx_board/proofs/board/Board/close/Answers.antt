use Rattle.std.proofs.Common.{◌≡◌, sym, ap, ◌∙◌, subst}
use Rattle.std.specs.Prelude.{Some}
use Rattle.rx_board.specs.Seats.{Standing}
use Rattle.rx_board.specs.Closing.{IsClosedWith}
use Rattle.rx_board.specs.Rule.{BoardValue, Lawful}
use Rattle.rx_board.proofs.Closes.{closes}
use Rattle.rx_board.proofs.board.Board.close.Goals as goal

pub returns-clause-lawful : goal.returns-clause-lawful
returns-clause-lawful g c = let f = c.close_with.ensures.values.2 in let p = c.args.self.plan in let t = c.seat.inside.inner in
    let of : t.me.0.plan ≡ Some p = subst (λ (s : Standing). s.view.plan ≡ Some p) (sym c.seat.view_is) c.requires.seat.1 in
    subst (λ (s : Standing). IsClosedWith p s.view c.of.result) c.seat.view_is
    (closes p t.me.0 t.id c.of.result f.0 (subst (λ (b : BoardValue). Lawful b.plan f.0) c.self.view_is f.1.0) f.1.1 of (f.2 ∙ sym c.of.ensures.2)
    (c.of.ensures.0 ∙ (sym c.self.invariant.2 ∙ ap (λ (b : BoardValue). b.plan.width) c.self.view_is)))
