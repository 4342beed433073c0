use Rattle.std.proofs.Common.{◌≡◌, ℕ, ◌<◌, length}
use Rattle.rx_laws.specs.Words.{of_words}
use Rattle.rx_points.specs.Residues.{residue, turned_back}
use Rattle.rx_points.proofs.way_up.difference_into.Given as goal

abbrev pub invariant-loop-i : goal.invariant-loop-i
invariant-loop-i l = record {
  written : (k : ℕ) → k < l.i → residue (of_words l.room k) ≡ residue (turned_back (length l.near) l.s (of_words l.near) (of_words l.away) k);
}
