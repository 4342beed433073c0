use Rattle.std.proofs.Common.{◌≡◌, ℕ, suc, pos, ◌+◌, ◌-◌, ◌*◌, ◌%◌, ◌^◌, ◌<◌, length, get_or}
use Rattle.rx_ring.specs.Limbs.{limb_at}
use Rattle.rx_points.proofs.key.limbs_into.Given as goal

abbrev pub invariant-loop-place : goal.invariant-loop-place
invariant-loop-place l = record {
  written : (k u : ℕ) → k < 6 → u < l.place →
      get_or l.limbs (k * length l.values + u) (pos 0) ≡ limb_at k (get_or l.values (length l.values - suc u) 0 % 2 ^ 69);
}
