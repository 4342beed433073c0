use Rattle.std.proofs.Common.{arith}
use Rattle.rx_seeded.proofs.Filled.{some_masks}
use Rattle.rx_seeded.proofs.filling.full_words.Goals as goal

pub write_words-requires-clause-some : goal.write_words-requires-clause-some
write_words-requires-clause-some c = omega (arith, c.large_dim-masks.ensures.value, some_masks c.args.p.now c.requires.accepted.fields)
