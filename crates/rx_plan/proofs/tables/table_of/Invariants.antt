use Rattle.std.proofs.Common.{◌≡◌, ℕ, ◌<◌, length, get_or}
use Rattle.rx_plan.proofs.tables.table_of.Given as goal

abbrev pub invariant-loop-i : goal.invariant-loop-i
invariant-loop-i g l = record {
  callable : goal.F-IsAlwaysCallable g l.f;
  count : length l.table.items ≡ l.i;
  each : (k : ℕ) → k < l.i → g.F.Fn.post l.f (k, tt) (get_or l.table.items k 0);
}
