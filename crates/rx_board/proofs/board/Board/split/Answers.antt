use Rattle.std.proofs.Common.{sym, ap, ◌∙◌, subst}
use Rattle.std.specs.Prelude.{Contains}
use Rattle.atomic_table.specs.Table.{Me}
use Rattle.rx_board.specs.declared.view.View.{View}
use Rattle.rx_board.proofs.board.Board.split.Goals as goal

pub invariant_of-seat : goal.invariant_of-seat
invariant_of-seat g c = let me = c.split_raw-inner.ensures.kept.2 in let inv = c.seat.invariant in (
  ap (λ (m : Me (Unit {0}) View). m.0.held) me ∙ inv.0,
  ap (λ (m : Me (Unit {0}) View). m.1) me ∙ inv.1,
  λ j l. subst (λ (m : Me (Unit {0}) View). Contains m.0.known j) (sym me) (inv.2 j l),
)

pub invariant_of-result : goal.invariant_of-result
invariant_of-result g c = let made = c.split_raw-inner.ensures.made in (made.0.3, made.0.1, λ j l. subst (λ (v : View). Contains v.known j) (sym made.1) (c.seat.invariant.2 j l))
