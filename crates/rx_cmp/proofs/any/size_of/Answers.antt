use Rattle.std.proofs.Common.{arith}
use Rattle.rx_cmp.proofs.Grouping.{size_is}
use Rattle.rx_cmp.proofs.any.size_of.Goals as goal

pub returns-clause-size : goal.returns-clause-size
returns-clause-size c = omega (arith, size_is c.args.most c.args.count c.args.i)
