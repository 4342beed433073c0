use Rattle.std.proofs.Common.{subst}
use Rattle.rx_board.specs.Seats.{Standing}
use Rattle.rx_board.specs.Tells.{Keeps, Told}
use Rattle.rx_board.proofs.Seeks.{told_later, keeps_later}
use Rattle.rx_board.proofs.board.Board.step.Goals as goal

pub returns-clause-keeps : goal.returns-clause-keeps
returns-clause-keeps g c = subst (λ (s : Standing). Keeps s.view c.step_from.new.seat.me.0) c.seat.view_is
    (keeps_later c.args.self.now.plan c.seat.inside.inner.me.0 c.known_from-below.new.seat.me.0 c.step_from.new.seat.me.0 c.known_from-below.ensures.grows c.step_from.ensures.keeps)

pub returns-clause-told : goal.returns-clause-told
returns-clause-told g c = subst (λ (s : Standing). Told c.args.self.now.plan s.view c.step_from.new.seat.me.0 c.step_from.result) c.seat.view_is
    (told_later c.args.self.now.plan c.seat.inside.inner.me.0 c.known_from-below.new.seat.me.0 c.step_from.new.seat.me.0 c.known_from-below.ensures.grows c.step_from.result c.step_from.ensures.told)
