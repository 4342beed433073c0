use Rattle.std.proofs.Common.{◌≡◌, ℕ, ◌*◌, ◌≤◌, get_or}
use Rattle.rx_points.specs.Numbers.{part}
use Rattle.rx_points.specs.Rows.{AreKeyLimbs, AddsPoints}
use Rattle.rx_points.proofs.whole.all_products.Given as goal

abbrev pub invariant-loop-point : goal.invariant-loop-point
invariant-loop-point l = record {
  written : (v : ℕ → ℕ → ℕ) → AreKeyLimbs (l.rows * l.places) v l.limbs →
      AddsPoints l.rows l.places l.point (part (l.rows * l.places) l.points) v l.initial.sums l.sums;
  left : (k : ℕ) → l.point * l.places ≤ k → get_or l.sums k 0 ≡ get_or l.initial.sums k 0;
}
