use Rattle.std.proofs.Common.{◌≡◌, ℕ, ◌<◌, ◌+◌, ◌*◌, get_or}
use Rattle.rx_laws.specs.Torus.{word}
use Rattle.rx_ring.specs.Parts.{of_parts}
use Rattle.rx_ring.specs.Rotation.{turned_away}
use Rattle.rx_boot.proofs.rotation.turn_away.Given as goal

abbrev pub invariant-loop-j : goal.invariant-loop-j
invariant-loop-j l =
    (q i : ℕ) → q < l.j → i < l.n → get_or l.away (q * l.n + i) 0 ≡ word (turned_away l.n l.amount (of_parts l.n l.glwe) q i)
