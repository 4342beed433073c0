use Rattle.std.proofs.Common.{◌≡◌, ℕ, ◌+ℤ◌, ◌-ℤ◌, ◌<◌, ◌≤◌, get_or}
use Rattle.rx_laws.specs.Words.{of_words}
use Rattle.rx_points.specs.Residues.{residue}
use Rattle.rx_points.proofs.key.add_and_subtract.Given as goal

abbrev pub invariant-loop-i : goal.invariant-loop-i
invariant-loop-i l = record {
  sums : (k : ℕ) → k < l.i → residue (of_words l.near k) ≡ residue (of_words l.initial.near k +ℤ of_words l.turned k);
  differences : (k : ℕ) → k < l.i → residue (of_words l.away k) ≡ residue (of_words l.initial.near k -ℤ of_words l.turned k);
  left : (k : ℕ) → l.i ≤ k → get_or l.near k 0 ≡ get_or l.initial.near k 0;
}
