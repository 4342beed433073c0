use Rattle.std.proofs.Common.{rules, sym, subst, arith}
use Rattle.rx_board.specs.Rule.{BoardValue, Lawful, spent}
use Rattle.rx_board.specs.Steps.{both_of}
use Rattle.atomic_table.specs.Table.{Joins}
use Rattle.rx_board.proofs.Steps.{joins}
use Rattle.rx_board.proofs.board.Board.join_raw.Goals as goal

pub join_seat-requires : goal.join_seat-requires
join_seat-requires g c = (
  search rules,
  search rules,
  search rules,
  omega (arith, c.self.invariant.4.words_are),
  subst (λ (z : BoardValue). Joins (Lawful z.plan) c.args.seat.now.id c.args.seat.now.me.0 c.args.other.id c.args.other.me.0 (both_of c.args.seat.now.me.0 c.args.other.me.0) spent) (sym c.self.view_is) (joins c.args.self.now.plan _ _ _ _ c.requires.seat.2 c.requires.seat.3 c.requires.other.3),
)
