use Rattle.std.proofs.Common.{◌≡◌, ◌++◌, ◌*◌}
use Rattle.rx_lwe.specs.Seeded.{seeded_rows}
use Rattle.rx_codec.specs.WordFields.{words_in}
use Rattle.rx_seeded.specs.Masks.{row_masks}
use Rattle.rx_seeded.proofs.seeded_rows.add_rows.Given as goal

abbrev pub invariant-loop-number : goal.invariant-loop-number
invariant-loop-number l =
    l.out.items
    ≡ l.fn.out.items
    ++ seeded_rows (row_masks l.rows.kind l.mask_seed) l.rows.masks l.rows.wide l.number (words_in (l.rows.count * l.rows.wide) l.bodies)
