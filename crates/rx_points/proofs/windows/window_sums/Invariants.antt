use Rattle.std.proofs.Common.{◌≡◌, ◌*◌, w32}
use Rattle.std.specs.Int.{int_wrap}
use Rattle.rx_laws.specs.Words.{of_numbers}
use Rattle.rx_points.specs.Windows.{window_sum}
use Rattle.rx_points.proofs.windows.window_sums.Given as goal

abbrev pub invariant-loop-i : goal.invariant-loop-i
invariant-loop-i l = record {
  first : l.first ≡ int_wrap w32 (window_sum l.i (of_numbers l.digits) (of_numbers l.numbers) 0);
  second : l.second ≡ int_wrap w32 (window_sum l.i (of_numbers l.digits) (of_numbers l.numbers) l.stride);
  third : l.third ≡ int_wrap w32 (window_sum l.i (of_numbers l.digits) (of_numbers l.numbers) (2 * l.stride));
  fourth : l.fourth ≡ int_wrap w32 (window_sum l.i (of_numbers l.digits) (of_numbers l.numbers) (3 * l.stride));
}
