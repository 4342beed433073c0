use Rattle.std.proofs.Common.{sym, ap, ◌∙◌, subst}
use Rattle.std.specs.Prelude.{Contains}
use Rattle.std.proofs.lemmas.List.Elements.{Contains-append_left}
use Rattle.atomic_table.specs.Table.{Me}
use Rattle.rx_board.specs.declared.view.View.{View}
use Rattle.rx_board.proofs.board.Board.join.Goals as goal

pub invariant_of-seat : goal.invariant_of-seat
invariant_of-seat g c = let me = c.join_raw.ensures.kept.2 in let inv = c.seat.invariant in (
  ap (λ (m : Me (Unit {0}) View). m.0.held) me ∙ inv.0,
  ap (λ (m : Me (Unit {0}) View). m.1) me ∙ inv.1,
  λ j l. subst (λ (m : Me (Unit {0}) View). Contains m.0.known j) (sym me) (Contains-append_left c.seat.inside.inner.me.0.known c.other.inside.inner.me.0.known j (inv.2 j l)),
)
