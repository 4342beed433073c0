use Rattle.std.proofs.Common.{◌≡◌, length}
use Rattle.bench_bootstraps.proofs.look_up_by_pairs.Given as goal

abbrev pub invariant-loop : goal.invariant-loop
invariant-loop l = record {
  room : l.scratch ≡ l.key.params;
  size : length l.out ≡ length l.fn.out;
}
