use Rattle.std.proofs.Common.{arith}
use Rattle.std.proofs.Math.Facts.{Fits-of_lt}
use Rattle.rx_params.specs.Derived.{large_dim}
use Rattle.rx_multi.proofs.Keys.{switch_size-few}
use Rattle.rx_multi.proofs.word_counts.pair_switch_words.Goals as goal

pub overflow_mul-result : goal.overflow_mul-result
unfolding large_dim
overflow_mul-result c = Fits-of_lt (omega (arith, switch_size-few c.args.p.now c.requires))

pub returns-clause-few : goal.returns-clause-few
unfolding large_dim
returns-clause-few c = switch_size-few c.args.p.now c.requires
