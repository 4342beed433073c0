use Rattle.std.proofs.Common.{arith}
use Rattle.rx_params.proofs.Sizes.{large_dim-high}
use Rattle.rx_codec.proofs.shapes.block_words.Goals as goal

pub returns-clause-few : goal.returns-clause-few
returns-clause-few c = omega (arith, large_dim-high c.args.params.now c.requires.fields)
