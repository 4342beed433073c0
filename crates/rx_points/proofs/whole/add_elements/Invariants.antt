use Rattle.std.proofs.Common.{◌≡◌, ℕ, ℤ, pos, ◌+ℤ◌, ◌*ℤ◌, ◌+◌, ◌*◌, ◌/◌, ◌%◌, ◌<◌, ◌≤◌, get_or}
use Rattle.rx_laws.specs.Torus.{word}
use Rattle.rx_laws.specs.Words.{of_words}
use Rattle.rx_ring.specs.Parts.{of_parts}
use Rattle.rx_ring.specs.Blocks.{closed}
use Rattle.rx_points.specs.Residues.{residue}
use Rattle.rx_points.proofs.whole.add_elements.Given as goal

abbrev pub invariant-loop-i : goal.invariant-loop-i
invariant-loop-i l = record {
  written : (c : ℕ → ℤ) → ((i : ℕ) → i < 16 * l.places →
      residue (closed l.places (of_parts l.places l.elements) (λ k. of_parts l.places l.elements (16 + k)) (i % 16) (i / 16)) ≡ residue (pos 32 *ℤ c i)) →
      (k : ℕ) → k < l.i → get_or l.acc k 0 ≡ word (of_words l.initial.acc k +ℤ c k);
  left : (k : ℕ) → l.i ≤ k → get_or l.acc k 0 ≡ get_or l.initial.acc k 0;
}
