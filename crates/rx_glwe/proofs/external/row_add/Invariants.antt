use Rattle.std.proofs.Common.{◌≡◌, ℕ, ◌+ℤ◌, get_or, ◌<◌, ◌≤◌, ◌*◌, ◌+◌}
use Rattle.rx_laws.specs.Torus.{word}
use Rattle.rx_laws.specs.Words.{of_numbers}
use Rattle.rx_ring.specs.Polynomial.{product}
use Rattle.rx_ring.specs.Parts.{of_parts}
use Rattle.rx_glwe.proofs.external.row_add.Given as goal

abbrev pub invariant-loop-q : goal.invariant-loop-q
invariant-loop-q l =
    ((q i : ℕ) → q < l.q → i < l.n →
    get_or l.acc (q * l.n + i) 0
    ≡ word (of_parts l.n l.initial.acc q i +ℤ product l.n (of_numbers l.small) (of_parts l.n l.row q) i))
    × ((k : ℕ) → l.q * l.n ≤ k → get_or l.acc k 0 ≡ get_or l.initial.acc k 0)
