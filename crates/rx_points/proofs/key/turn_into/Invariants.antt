use Rattle.std.proofs.Common.{◌≡◌, ℕ, ◌<◌, length}
use Rattle.rx_laws.specs.Words.{of_words}
use Rattle.rx_ring.specs.Polynomial.{turned}
use Rattle.rx_points.specs.Residues.{residue}
use Rattle.rx_points.proofs.key.turn_into.Given as goal

abbrev pub invariant-loop-i : goal.invariant-loop-i
invariant-loop-i l = record {
  written : (k : ℕ) → k < l.i → residue (of_words l.room k) ≡ residue (turned (length l.block) (of_words l.block) l.s k);
}
