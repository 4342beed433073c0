use Rattle.std.proofs.Common.{◌∙◌}
use Rattle.rx_params.specs.Derived.{large_dim}
use Rattle.rx_lwe.proofs.seeded.seeded_words.Goals as goal

pub write_rows-requires-clause-room : goal.write_rows-requires-clause-room
unfolding large_dim
write_rows-requires-clause-room c = c.deref_mut.ensures.len ∙ c.in_ok-words.ensures.len
