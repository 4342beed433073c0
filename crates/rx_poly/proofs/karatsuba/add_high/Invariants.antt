use Rattle.std.proofs.Common.{◌+ℤ◌, ◌-ℤ◌, ◌+◌, ◌*◌}
use Rattle.rx_laws.specs.Words.{of_words}
use Rattle.rx_poly.specs.Writes.{WrittenTo}
use Rattle.rx_poly.proofs.karatsuba.add_high.Given as goal

abbrev pub invariant-loop-vector : goal.invariant-loop-vector
invariant-loop-vector l = record {
  front : WrittenTo (4 * l.vector) (λ k. of_words l.initial.front k +ℤ (of_words l.product (l.half + k) -ℤ of_words l.product k)) l.initial.front l.front;
  back : WrittenTo (4 * l.vector) (λ k. of_words l.initial.back k -ℤ (of_words l.product k +ℤ of_words l.product (l.half + k))) l.initial.back l.back;
}
