use Rattle.std.proofs.Common.{◌≡◌, pos, ◌+ℤ◌, ◌*ℤ◌, ◌^◌, arith, ap, ◌∙◌}
use Rattle.std.proofs.lemmas.Int.{ints}
use Rattle.std.specs.Int.RustNames.{unsigned_abs}
use Rattle.rx_laws.proofs.Torus.{distance_least, distance_reached}
use Rattle.rx_laws.proofs.distance_laws.Goals as goal
use lib.IntN.{neg_ℤ}

pub returns : goal.returns
returns c = record {
  least = λ z k. distance_least z (z +ℤ k *ℤ pos (2 ^ 64)) (neg_ℤ k) (omega (arith, ints));
  reached = λ z.
      let t = distance_reached z in
      let e : z ≡ t.0 +ℤ t.1 *ℤ pos (2 ^ 64) = t.2 in
      let f : z +ℤ neg_ℤ t.1 *ℤ pos (2 ^ 64) ≡ t.0 = omega (arith, ints) in
      (neg_ℤ t.1, ap unsigned_abs f ∙ t.3);
}
