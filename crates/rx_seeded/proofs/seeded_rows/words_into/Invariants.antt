use Rattle.std.proofs.Common.{◌≡◌, ℕ, ◌<◌, get_or}
use Rattle.rx_codec.proofs.Words.{word_of}
use Rattle.rx_seeded.proofs.seeded_rows.words_into.Given as goal

abbrev pub invariant-loop-i : goal.invariant-loop-i
invariant-loop-i l = (k : ℕ) → k < l.i → get_or l.out k 0 ≡ word_of l.bytes k
