use Rattle.std.proofs.Common.{◌≡◌}
use Rattle.rx_fold.specs.Folded.{numbered}
use Rattle.rx_fold.specs.Passes.{Tells, is_marked}
use Rattle.rx_fold.proofs.numbers.count_before.Given as goal

abbrev pub invariant-loop-is_kept : goal.invariant-loop-is_kept
invariant-loop-is_kept l = record {
  numbers : Tells 0 (numbered (is_marked l.kept)) l.is_kept-index l.numbers.items;
  count : l.count ≡ numbered (is_marked l.kept) l.is_kept-index;
}
