use Rattle.std.proofs.Common.{ℕ, ◌^◌, sym, ◌∙◌, ap}
use Rattle.rx_tests_noise.proofs.tests.lookups.looked_up.Goals as goal

pub bootstrap_into-requires-clause-table_size : goal.bootstrap_into-requires-clause-table_size
bootstrap_into-requires-clause-table_size c = c.requires.table_size ∙ sym (ap (λ (m : ℕ). 4 ^ m) c.requires.message_bits)
