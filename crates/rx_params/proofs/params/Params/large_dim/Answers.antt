use Rattle.std.proofs.Common.{arith}
use Rattle.rx_params.proofs.Sizes.{large_dim-high}
use Rattle.rx_params.proofs.params.Params.large_dim.Goals as goal

pub returns-clause-high : goal.returns-clause-high
returns-clause-high c = omega (arith, large_dim-high c.args.self.now c.requires)
