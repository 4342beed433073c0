use Rattle.std.proofs.Common.{arith}
use Rattle.std.proofs.Math.Facts.{Fits-of_lt}
use Rattle.rx_multi.proofs.Keys.{ggsw_few}
use Rattle.rx_multi.proofs.turns.products_size.Goals as goal

pub overflow_mul-result-3 : goal.overflow_mul-result-3
overflow_mul-result-3 c = Fits-of_lt (omega (arith, ggsw_few c.args.p.now c.requires))
