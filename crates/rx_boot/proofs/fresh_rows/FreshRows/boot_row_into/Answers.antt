use Rattle.std.proofs.Common.{length, ap, ◌∙◌}
use Rattle.rx_lwe.proofs.Keys.{small_key-length, large_key-length}
use Rattle.rx_boot.proofs.fresh_rows.FreshRows.boot_row_into.Goals as goal

pub write_row-requires-clause-bits_size : goal.write_row-requires-clause-bits_size
write_row-requires-clause-bits_size c =
    ap length c.bits-bits.ensures.value ∙ ap length c.self.invariant.1 ∙ small_key-length c.self.inside.params c.self.inside.client_seed

pub write_row-requires-clause-large_size : goal.write_row-requires-clause-large_size
write_row-requires-clause-large_size c =
    ap length c.self.invariant.2 ∙ large_key-length c.self.inside.params c.self.inside.client_seed
