use Rattle.std.proofs.Common.{pos, ◌-ℤ◌, ◌*◌}
use Rattle.rx_laws.specs.Words.{of_numbers}
use Rattle.rx_points.specs.Numbers.{WrittenTo}
use Rattle.rx_points.proofs.lanes.lay_out_turns.Given as goal

abbrev pub invariant-loop-vector : goal.invariant-loop-vector
invariant-loop-vector l = record {
  negated : WrittenTo (8 * l.vector) (λ i. pos 0 -ℤ of_numbers l.block i) l.initial.turned l.turned;
  copied : WrittenTo (8 * l.vector) (λ i. of_numbers l.block i) l.initial.same l.same;
}
