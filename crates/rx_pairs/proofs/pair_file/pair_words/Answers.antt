use Rattle.std.proofs.Common.{arith}
use Rattle.rx_multi.proofs.Keys.{all_words}
use Rattle.rx_pairs.proofs.pair_file.pair_words.Goals as goal

pub returns-clause-value : goal.returns-clause-value
returns-clause-value c = omega (arith, all_words c.args.p.now)

pub returns-clause-few : goal.returns-clause-few
returns-clause-few c = omega (arith, all_words c.args.p.now, c.requires.key)
