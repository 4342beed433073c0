use Rattle.std.proofs.Common.{◌≡◌, ◌+◌, ◌*◌, take}
use Rattle.std.specs.List.{range_with_len, flat_map}
use Rattle.rx_lwe.specs.SwitchKeys.{switch_row}
use Rattle.rx_lwe.proofs.made_rows.write_rows.Given as goal

abbrev pub invariant-loop-row : goal.invariant-loop-row
invariant-loop-row l =
    take (l.row * (l.p.lwe_dim + 1)) l.out
    ≡ flat_map (switch_row l.p l.large l.small l.mask_seed l.noise_seed) (range_with_len 0 l.row)
