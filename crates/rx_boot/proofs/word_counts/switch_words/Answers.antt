use Rattle.std.proofs.Common.{arith}
use Rattle.std.proofs.Math.Facts.{Fits-of_lt}
use Rattle.rx_params.specs.Derived.{large_dim}
use Rattle.rx_boot.proofs.MadeKeys.{switch_size-few}
use Rattle.rx_boot.proofs.word_counts.switch_words.Goals as goal

pub overflow_mul-result : goal.overflow_mul-result
unfolding large_dim
overflow_mul-result c = Fits-of_lt (omega (arith, switch_size-few c.args.params.now c.requires))

pub returns-clause-few : goal.returns-clause-few
unfolding large_dim
returns-clause-few c = switch_size-few c.args.params.now c.requires
