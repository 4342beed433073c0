use Rattle.std.proofs.Common.{◌≡◌, ◌+◌, ◌*◌, drop}
use Rattle.rx_seeded.specs.SeededCipher.{wrong_in_blocks as wrong_among_blocks}
use Rattle.rx_seeded.proofs.masks.wrong_in_blocks.Given as goal

abbrev pub invariant-loop-i : goal.invariant-loop-i
invariant-loop-i l =
    wrong_among_blocks l.p l.mask_seed (l.number + l.i) (l.at + l.width * l.i) (drop l.i l.blocks)
    ≡ wrong_among_blocks l.p l.mask_seed l.number l.at l.blocks
