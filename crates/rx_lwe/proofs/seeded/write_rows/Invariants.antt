use Rattle.std.proofs.Common.{◌≡◌, ◌+◌, ◌*◌, take}
use Rattle.rx_lwe.specs.Seeded.{seeded_rows, switch_masks}
use Rattle.rx_lwe.proofs.seeded.write_rows.Given as goal

abbrev pub invariant-loop-row : goal.invariant-loop-row
invariant-loop-row l =
    take (l.row * (l.p.lwe_dim + 1)) l.out ≡ seeded_rows (switch_masks l.mask_seed) l.p.lwe_dim 1 l.row l.bodies
