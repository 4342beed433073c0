use Rattle.std.proofs.Common.{◌≡◌, ℕ, ◌+◌, ◌*◌, ◌<◌, get_or}
use Rattle.rx_points.specs.Rows.{key_word}
use Rattle.rx_points.proofs.evaluation.key_words.Given as goal

abbrev pub invariant-loop-block : goal.invariant-loop-block
invariant-loop-block l = record {
  written : (q i : ℕ) → q < l.block → i < l.rows * l.places → get_or l.values (q * (l.rows * l.places) + i) 0 ≡ key_word l.rows l.stride l.words q i;
}
