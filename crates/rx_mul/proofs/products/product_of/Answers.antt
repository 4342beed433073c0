use Rattle.std.proofs.Common.{arith}
use Rattle.rx_mul.proofs.PairRows.{product_le}
use Rattle.rx_mul.proofs.products.product_of.Goals as goal

pub overflow_mul-result : goal.overflow_mul-result
overflow_mul-result c = omega (arith, product_le c.args.unit c.args.i c.requires)
