use Rattle.std.proofs.Common.{neg_ℤ, ◌*◌}
use Rattle.rx_laws.specs.Words.{of_words}
use Rattle.rx_poly.specs.Writes.{WrittenTo}
use Rattle.rx_poly.proofs.lanes.negate_vectors.Given as goal

abbrev pub invariant-loop-vector : goal.invariant-loop-vector
invariant-loop-vector l = WrittenTo (4 * l.vector) (λ i. neg_ℤ (of_words l.words i)) l.initial.out l.out
