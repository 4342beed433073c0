use Rattle.std.proofs.Common.{◌+ℤ◌, ◌*◌}
use Rattle.rx_laws.specs.Words.{of_words}
use Rattle.rx_poly.specs.Writes.{WrittenTo}
use Rattle.rx_poly.proofs.lanes.add_vectors.Given as goal

abbrev pub invariant-loop-vector : goal.invariant-loop-vector
invariant-loop-vector l = WrittenTo (4 * l.vector) (λ i. of_words l.initial.acc i +ℤ of_words l.other i) l.initial.acc l.acc
