use Rattle.std.proofs.Common.{◌≡◌, ℕ, ◌<◌, ◌+◌, ◌*◌, get_or}
use Rattle.rx_laws.specs.Torus.{word}
use Rattle.rx_ring.specs.Polynomial.{turned}
use Rattle.rx_ring.specs.Parts.{of_parts}
use Rattle.rx_glwe.proofs.extract.extract_into.Given as goal

abbrev pub invariant-loop-j : goal.invariant-loop-j
invariant-loop-j l =
    (q i : ℕ) → q < l.j → i < l.n → get_or l.out (q * l.n + i) 0 ≡ word (turned l.n (of_parts l.n l.glwe q) i 0)
