use Rattle.std.proofs.Common.{neg_ℤ}
use Rattle.rx_laws.specs.Words.{of_words}
use Rattle.rx_poly.specs.Writes.{WrittenTo}
use Rattle.rx_poly.proofs.sums.negate_into.Given as goal

abbrev pub invariant-loop-i : goal.invariant-loop-i
invariant-loop-i l = WrittenTo l.i (λ k. neg_ℤ (of_words l.words k)) l.fn.out l.out
