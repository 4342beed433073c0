use Rattle.std.proofs.Common.{arith}
use Rattle.rx_boot.proofs.MadeKeys.{all_words}
use Rattle.rx_codec.proofs.shapes.key_words.Goals as goal

pub returns-clause-value : goal.returns-clause-value
returns-clause-value c = omega (arith, all_words c.args.params.now)

pub returns-clause-few : goal.returns-clause-few
returns-clause-few c = omega (arith, all_words c.args.params.now, c.requires.key)
