use Rattle.std.proofs.Common.{◌+◌, ◌*◌, negsuc, arith}
use Rattle.std.proofs.lemmas.Int.{ints}
use Rattle.rx_points.proofs.Exact.{same_digits}
use Rattle.rx_points.proofs.tests.points_of_the_lowest_digits.Goals as goal

pub digit_points-requires-clause-digits : goal.digit_points-requires-clause-digits
digit_points-requires-clause-digits g c = λ j i p q.
    same_digits 256 (j * 8 + i) (negsuc 2047) (omega arith) (record { low = omega (arith, ints); high = omega (arith, ints) })
