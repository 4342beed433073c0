use Rattle.std.proofs.Common.{◌≡◌, ℕ, get_or, ◌<◌}
use Rattle.rx_laws.specs.Torus.{word}
use Rattle.rx_laws.specs.Words.{of_numbers}
use Rattle.rx_poly.proofs.products.write_digits.Given as goal

abbrev pub invariant-loop-i : goal.invariant-loop-i
invariant-loop-i l = (k : ℕ) → k < l.i → get_or l.out k 0 ≡ word (of_numbers l.small k)
