use Rattle.std.proofs.Common.{◌*◌, ◌+ℤ◌, ◌-ℤ◌}
use Rattle.rx_laws.specs.Words.{of_numbers}
use Rattle.rx_points.specs.Numbers.{WrittenTo}
use Rattle.rx_points.proofs.lanes.add_and_subtract.Given as goal

abbrev pub invariant-loop-vector : goal.invariant-loop-vector
invariant-loop-vector l = record {
  sums : WrittenTo (8 * l.vector) (λ i. of_numbers l.initial.near i +ℤ of_numbers l.turned i) l.initial.near l.near;
  differences : WrittenTo (8 * l.vector) (λ i. of_numbers l.initial.near i -ℤ of_numbers l.turned i) l.initial.away l.away;
}
