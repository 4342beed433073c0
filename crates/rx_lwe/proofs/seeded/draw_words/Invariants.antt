use Rattle.std.proofs.Common.{◌≡◌, ℕ, pos, ◌<◌, get_or}
use Rattle.rx_laws.specs.Torus.{word}
use Rattle.rx_torus.specs.Streams.{draw}
use Rattle.rx_lwe.proofs.Draws.{after}
use Rattle.rx_lwe.proofs.seeded.draw_words.Given as goal

abbrev pub invariant-loop-word : goal.invariant-loop-word
invariant-loop-word l = record {
  stream : l.stream ≡ after l.word-index l.fn.stream;
  drawn : (k : ℕ) → k < l.word-index → get_or l.out k 0 ≡ word (pos (draw l.fn.stream k));
}
