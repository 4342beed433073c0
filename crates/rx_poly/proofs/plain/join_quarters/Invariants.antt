use Rattle.std.proofs.Common.{ℕ, ◌+ℤ◌, ◌-ℤ◌, ◌+◌, ◌*◌, get_or, ◌<◌, ◌^◌}
use Rattle.rx_laws.specs.Words.{of_words}
use Rattle.rx_poly.specs.Writes.{WrittenTo}
use Rattle.rx_poly.proofs.plain.join_quarters.Given as goal

abbrev pub invariant-loop-vector : goal.invariant-loop-vector
invariant-loop-vector l = record {
  second : WrittenTo (4 * l.vector)
      (λ k. of_words l.initial.low_1 k +ℤ ((of_words l.mixed k -ℤ of_words l.low_0 k) -ℤ of_words l.initial.high_0 k))
      l.initial.low_1 l.low_1;
  third : WrittenTo (4 * l.vector)
      (λ k. of_words l.initial.high_0 k +ℤ ((of_words l.mixed (l.half + k) -ℤ of_words l.initial.low_1 k) -ℤ of_words l.high_1 k))
      l.initial.high_0 l.high_0;
  second_fits : (k : ℕ) → get_or l.initial.low_1 k 0 < 2 ^ 64;
  third_fits : (k : ℕ) → get_or l.initial.high_0 k 0 < 2 ^ 64;
}
