use Rattle.rx_mul.proofs.PairRows.{PairRows}
use Rattle.rx_mul.proofs.products.pair_rows.Given as goal

abbrev pub invariant-loop-i : goal.invariant-loop-i
invariant-loop-i l = PairRows l.fn.pen l.pen l.rows.items l.a l.b l.low l.high l.i
