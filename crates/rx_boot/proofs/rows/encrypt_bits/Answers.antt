use Rattle.std.proofs.Common.{◌*◌, ◌∙◌, ap}
use Rattle.rx_glwe.specs.Sizes.{glwe_size}
use Rattle.rx_boot.specs.BootKeys.{ggsw_row_count}
use Rattle.rx_boot.proofs.rows.encrypt_bits.Goals as goal

pub write_rows-requires-clause-room : goal.write_rows-requires-clause-room
write_rows-requires-clause-room c = c.deref_mut.ensures.len ∙ c.in_ok-room.ensures.len

pub write_rows-requires-clause-size : goal.write_rows-requires-clause-size
write_rows-requires-clause-size c =
    c.deref_mut-2.ensures.len ∙ c.in_ok-words.ensures.len
    ∙ ap (λ n. n * ggsw_row_count c.args.p.now * glwe_size c.args.p.now) c.requires.bits_size
