use Rattle.rx_mul.proofs.Grouped.{Round}
use Rattle.rx_mul.proofs.rounds.round.Given as goal

abbrev pub invariant-loop-g : goal.invariant-loop-g
invariant-loop-g l = Round l.fn.pen l.pen l.rows l.next.items l.shared.width l.count l.first l._g l.turns l.most
