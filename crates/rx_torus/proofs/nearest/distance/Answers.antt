use Rattle.std.proofs.Common.{arith}
use Rattle.rx_laws.proofs.Torus.{distance-of_word}
use Rattle.rx_torus.proofs.nearest.distance.Goals as goal

pub returns-clause-nearest : goal.returns-clause-nearest
returns-clause-nearest c = omega (arith, c.min.ensures, c.wrapping_neg.ensures, distance-of_word c.args.x (omega (arith, c.ranges.x)))
