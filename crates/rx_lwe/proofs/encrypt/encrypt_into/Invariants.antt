use Rattle.std.proofs.Common.{◌≡◌, ℕ, pos, ◌<◌, get_or}
use Rattle.rx_laws.specs.Torus.{word}
use Rattle.rx_laws.specs.Words.{of_words}
use Rattle.rx_torus.specs.Streams.{draw, uniform}
use Rattle.rx_lwe.proofs.Draws.{after}
use Rattle.rx_lwe.proofs.Bodies.{body_to}
use Rattle.rx_lwe.proofs.encrypt.encrypt_into.Given as goal

abbrev pub invariant-loop-i : goal.invariant-loop-i
invariant-loop-i l = record {
  mask : l.mask ≡ after l.i l.fn.mask;
  written : (k : ℕ) → k < l.i → get_or l.out k 0 ≡ word (pos (draw l.fn.mask k));
  body : l.body ≡ word (body_to l.i (of_words l.key) (λ j. pos (draw l.fn.mask j)) (pos l.message) (uniform l.bound (draw l.fn.noise 0)));
}
