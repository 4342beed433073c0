use Rattle.std.proofs.Common.{arith}
use Rattle.std.proofs.Math.Facts.{Fits-of_lt}
use Rattle.rx_boot.proofs.MadeKeys.{boot_size-few}
use Rattle.rx_boot.proofs.word_counts.boot_words.Goals as goal

pub overflow_mul-result-3 : goal.overflow_mul-result-3
overflow_mul-result-3 c = Fits-of_lt (omega (arith, boot_size-few c.args.params.now c.requires))

pub returns-clause-few : goal.returns-clause-few
returns-clause-few c = boot_size-few c.args.params.now c.requires
