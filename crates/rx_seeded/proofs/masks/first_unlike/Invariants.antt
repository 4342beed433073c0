use Rattle.std.proofs.Common.{◌≡◌}
use Rattle.rx_seeded.specs.Masks.{first_unlike as first_unlike_of}
use Rattle.rx_seeded.proofs.Unlike.{unlike_rest}
use Rattle.rx_seeded.proofs.masks.first_unlike.Given as goal

abbrev pub invariant-loop-i : goal.invariant-loop-i
invariant-loop-i l = unlike_rest l.at l.words l.others l.i ≡ first_unlike_of l.at l.words l.others
