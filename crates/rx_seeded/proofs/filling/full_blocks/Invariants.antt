use Rattle.std.proofs.Common.{◌≡◌, ◌+◌, ◌++◌, drop}
use Rattle.rx_seeded.specs.SeededCipher.{full_blocks as blocks_filled}
use Rattle.rx_seeded.proofs.filling.full_blocks.Given as goal

abbrev pub invariant-loop-i : goal.invariant-loop-i
invariant-loop-i l =
    l.blocks.items ++ blocks_filled l.p l.mask_seed (l.number + l.i) (drop l.i l.short) ≡ blocks_filled l.p l.mask_seed l.number l.short
