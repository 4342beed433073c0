use Rattle.std.proofs.Common.{rules, sym, subst, arith}
use Rattle.rx_board.specs.Rule.{BoardValue, Lawful}
use Rattle.rx_board.specs.Steps.{given}
use Rattle.atomic_table.specs.Table.{Splits}
use Rattle.rx_board.proofs.Steps.{splits}
use Rattle.rx_board.proofs.board.Board.split_raw.Goals as goal

pub split_seat-requires : goal.split_seat-requires
split_seat-requires g c = (search rules, omega (arith, c.self.invariant.4.words_are), subst (λ (z : BoardValue). Splits (Lawful z.plan) c.args.seat.now.id c.args.seat.now.me.0 c.args.seat.now.me.0 (given c.args.seat.now.me.0)) (sym c.self.view_is) (splits c.args.self.now.plan _ _ c.requires.seat.2 c.requires.seat.3))
