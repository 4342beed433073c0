use Rattle.std.proofs.Common.{◌≡◌, ℕ, ◌<◌, ◌+◌, length, get_or}
use Rattle.rx_tests_plans.proofs.operands.cells_from.Given as goal

abbrev pub invariant-loop-i : goal.invariant-loop-i
invariant-loop-i l = record {
  count : length l.cells.items ≡ l.i;
  each : (k : ℕ) → k < length l.cells.items → get_or l.cells.items k 0 ≡ l.first + k;
}
