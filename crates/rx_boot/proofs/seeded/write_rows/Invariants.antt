use Rattle.std.proofs.Common.{◌≡◌, ◌*◌, take}
use Rattle.rx_params.specs.Derived.{large_dim}
use Rattle.rx_lwe.specs.Seeded.{seeded_rows}
use Rattle.rx_glwe.specs.Sizes.{glwe_size}
use Rattle.rx_boot.specs.Seeded.{boot_masks}
use Rattle.rx_boot.proofs.seeded.write_rows.Given as goal

abbrev pub invariant-loop-row : goal.invariant-loop-row
invariant-loop-row l =
    take (l.row * glwe_size l.p) l.out ≡ seeded_rows (boot_masks l.mask_seed) (large_dim l.p) l.p.poly_size l.row l.bodies
