use Rattle.std.proofs.Common.{◌-◌, ◌^◌}
use Rattle.rx_plan.specs.Planned.{Each, Planned}
use Rattle.rx_div.proofs.QuotientDigits.{digit_says}
use Rattle.rx_div.proofs.digits.digits.Given as goal

abbrev pub invariant-loop-i : goal.invariant-loop-i
invariant-loop-i l = Planned l.fn.pen l.pen l.cells.items (λ _. 2 ^ l.fn.pen.space - 1) l.i l.i 1 (Each l.borrows) (digit_says l.fn.pen l.borrows)
