use Rattle.std.proofs.Common.{◌≡◌, length}
use Rattle.bench_bootstraps.proofs.look_up_often.Given as goal

abbrev pub invariant-loop : goal.invariant-loop
invariant-loop l = record {
  room : l.scratch ≡ l.key.params;
  size : length l.out.words ≡ length l.fn.out.words;
}
