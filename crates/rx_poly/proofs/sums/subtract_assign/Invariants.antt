use Rattle.std.proofs.Common.{◌-ℤ◌}
use Rattle.rx_laws.specs.Words.{of_words}
use Rattle.rx_poly.specs.Writes.{WrittenTo}
use Rattle.rx_poly.proofs.sums.subtract_assign.Given as goal

abbrev pub invariant-loop-i : goal.invariant-loop-i
invariant-loop-i l = WrittenTo l.i (λ k. of_words l.fn.acc k -ℤ of_words l.other k) l.fn.acc l.acc
