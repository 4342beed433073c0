use Rattle.std.proofs.Common.{length, ap, ◌∙◌}
use Rattle.rx_lwe.proofs.Keys.{small_key-length, large_key-length}
use Rattle.rx_boot.proofs.fresh_rows.FreshRows.switch_row_into.Goals as goal

pub switch_row_into-requires-clause-small_size : goal.switch_row_into-requires-clause-small_size
switch_row_into-requires-clause-small_size c =
    ap length c.self.invariant.1 ∙ small_key-length c.self.inside.params c.self.inside.client_seed

pub switch_row_into-requires-clause-large_size : goal.switch_row_into-requires-clause-large_size
switch_row_into-requires-clause-large_size c =
    ap length c.self.invariant.2 ∙ large_key-length c.self.inside.params c.self.inside.client_seed
