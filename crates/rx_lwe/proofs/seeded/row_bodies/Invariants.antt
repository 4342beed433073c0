use Rattle.std.proofs.Common.{◌≡◌}
use Rattle.rx_lwe.specs.Seeded.{row_bodies as bodies_of_rows}
use Rattle.rx_lwe.proofs.seeded.row_bodies.Given as goal

abbrev pub invariant-loop-row : goal.invariant-loop-row
invariant-loop-row l = l.bodies.items ≡ bodies_of_rows l.masks l.wide l.row l.words
