use Rattle.std.proofs.Common.{ℕ, ◌^◌, sym, ◌∙◌, ap}
use Rattle.rx_multi.proofs.tests.looked_up.Goals as goal

pub pair_bootstrap_into-requires-clause-table_size : goal.pair_bootstrap_into-requires-clause-table_size
pair_bootstrap_into-requires-clause-table_size c = c.requires.table_size ∙ sym (ap (λ (m : ℕ). 4 ^ m) c.requires.message_bits)
