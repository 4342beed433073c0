use Rattle.std.proofs.Common.{◌≡◌, ℕ, suc, pos, ◌+◌, ◌-◌, ◌*◌, ◌%◌, ◌^◌, ◌<◌, get_or}
use Rattle.rx_ring.specs.Limbs.{limb_at}
use Rattle.rx_points.proofs.evaluation.all_limbs.Given as goal

abbrev pub invariant-loop-point : goal.invariant-loop-point
invariant-loop-point l = record {
  written : (p k u : ℕ) → p < l.point → k < 6 → u < l.n →
      get_or l.limbs (p * (6 * l.n) + (k * l.n + u)) (pos 0) ≡ limb_at k (get_or l.points (p * l.n + (l.n - suc u)) 0 % 2 ^ 69);
}
