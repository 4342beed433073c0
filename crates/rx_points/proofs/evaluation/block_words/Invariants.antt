use Rattle.std.proofs.Common.{◌≡◌, ℕ, ◌+◌, ◌-◌, ◌*◌, ◌<◌, get_or}
use Rattle.rx_points.proofs.evaluation.block_words.Given as goal

abbrev pub invariant-loop-t : goal.invariant-loop-t
invariant-loop-t l = record {
  written : (q i : ℕ) → q < l.t → i < l.rows → get_or l.part (q * l.rows + i) 0 ≡ get_or l.words ((l.rows - 1 - i) * l.stride + (q * 16 + l.block)) 0;
}
