use Rattle.rx_plan.specs.Values.{number_held}
use Rattle.rx_plan.specs.Planned.{Each, Planned}
use Rattle.rx_shift.specs.Amount.{bit_at}
use Rattle.rx_shift.proofs.amount.low_bits.Given as goal

abbrev pub invariant-loop-j : goal.invariant-loop-j
invariant-loop-j l = Planned l.fn.pen l.pen l.cells.items (λ _. 1) l.j l.j 1 (Each l.amount) (λ inputs i. bit_at (number_held l.fn.pen l.amount inputs) i)
