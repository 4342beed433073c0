use Rattle.std.proofs.Common.{◌≡◌, ◌*◌, take}
use Rattle.std.specs.List.{range_with_len, flat_map}
use Rattle.rx_glwe.specs.Sizes.{glwe_size}
use Rattle.rx_boot.specs.BootKeys.{numbered_row}
use Rattle.rx_boot.proofs.rows.write_rows.Given as goal

abbrev pub invariant-loop-row : goal.invariant-loop-row
invariant-loop-row l =
    take (l.row * glwe_size l.source.p.now) l.out
    ≡ flat_map (numbered_row l.source.rotation l.source.p.now l.source.bits.now l.source.large.now l.source.mask_seed.now l.source.noise_seed.now) (range_with_len 0 l.row)
