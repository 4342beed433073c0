use Rattle.std.proofs.Common.{◌≡◌, ℕ, ◌<◌, ◌≤◌, ◌+ℤ◌, ◌*ℤ◌, get_or}
use Rattle.rx_laws.specs.Torus.{word}
use Rattle.rx_laws.specs.Words.{of_words}
use Rattle.rx_lwe.proofs.scaled.add_scaled.Given as goal

abbrev pub invariant-loop-i : goal.invariant-loop-i
invariant-loop-i l = record {
  written : (k : ℕ) → k < l.i → get_or l.acc k 0 ≡ word (of_words l.initial.acc k +ℤ l.weight *ℤ of_words l.words k);
  unwritten : (k : ℕ) → l.i ≤ k → get_or l.acc k 0 ≡ get_or l.initial.acc k 0;
}
