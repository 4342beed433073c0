use Rattle.std.proofs.Common.{◌≡◌, ℕ, ◌<◌, ◌+ℤ◌, get_or}
use Rattle.rx_laws.specs.Torus.{word}
use Rattle.rx_laws.specs.Words.{of_words}
use Rattle.rx_torus.specs.Streams.{draw, uniform}
use Rattle.rx_lwe.proofs.Draws.{after}
use Rattle.rx_glwe.proofs.row.draw_noised.Given as goal

abbrev pub invariant-loop-i : goal.invariant-loop-i
invariant-loop-i l = record {
  noise : l.noise ≡ after l.i l.fn.noise;
  noised : (k : ℕ) → k < l.i → get_or l.body k 0 ≡ word (of_words l.hidden k +ℤ uniform l.bound (draw l.fn.noise k));
}
