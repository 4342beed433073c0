use Rattle.std.proofs.Common.{◌≡◌, ℕ, ◌+◌, ◌-◌, ◌*◌, ◌<◌, length, get_or}
use Rattle.rx_points.proofs.evaluation.row_words.Given as goal

abbrev pub invariant-loop-w : goal.invariant-loop-w
invariant-loop-w l = record {
  written : (k : ℕ) → k < l.w → get_or l.part k 0 ≡ get_or l.words ((length l.initial.part - 1 - k) * l.stride + l.offset) 0;
}
