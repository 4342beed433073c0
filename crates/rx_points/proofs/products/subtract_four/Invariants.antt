use Rattle.std.proofs.Common.{◌≡◌, ℕ, pos, ◌-ℤ◌, ◌*ℤ◌, ◌-◌, ◌^◌, ◌<◌, ◌≤◌, get_or}
use Rattle.rx_points.specs.Residues.{residue}
use Rattle.rx_points.proofs.products.subtract_four.Given as goal

abbrev pub invariant-loop-place : goal.invariant-loop-place
invariant-loop-place l = record {
  written : (t : ℕ) → t < l.place → residue (pos (get_or l.sums t 0)) ≡ residue (pos (get_or l.initial.sums t 0) -ℤ pos (2 ^ l.shift) *ℤ get_or l.totals (3 - t) (pos 0));
  left : (t : ℕ) → l.place ≤ t → get_or l.sums t 0 ≡ get_or l.initial.sums t 0;
}
