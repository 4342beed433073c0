use Rattle.std.proofs.Common.{◌≡◌, ℕ, pos, ◌<◌, get_or}
use Rattle.rx_laws.specs.Torus.{word}
use Rattle.rx_torus.specs.Streams.{draw}
use Rattle.rx_lwe.proofs.Draws.{after}
use Rattle.rx_glwe.proofs.row.draw_masks.Given as goal

abbrev pub invariant-loop-word : goal.invariant-loop-word
invariant-loop-word l = record {
  mask : l.mask ≡ after l.word-index l.fn.mask;
  drawn : (k : ℕ) → k < l.word-index → get_or l.masks k 0 ≡ word (pos (draw l.fn.mask k));
}
