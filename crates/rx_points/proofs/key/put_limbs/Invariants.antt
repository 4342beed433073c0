use Rattle.std.proofs.Common.{◌≡◌, ℕ, pos, ◌+◌, ◌*◌, ◌<◌, get_or}
use Rattle.rx_points.proofs.key.put_limbs.Given as goal

abbrev pub invariant-loop-limb : goal.invariant-loop-limb
invariant-loop-limb l = record {
  written : (k : ℕ) → k < l.limb → get_or l.limbs (k * l.n + l.place) (pos 0) ≡ get_or l.six k (pos 0);
  left : (k u : ℕ) → u < l.n → u < l.place → get_or l.limbs (k * l.n + u) (pos 0) ≡ get_or l.initial.limbs (k * l.n + u) (pos 0);
}
