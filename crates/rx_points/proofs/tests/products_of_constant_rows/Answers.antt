use Rattle.std.proofs.Common.{◌+◌, ◌*◌, ◌/◌, ◌%◌, negsuc, arith}
use Rattle.std.proofs.lemmas.Int.{ints}
use Rattle.rx_points.proofs.Exact.{same_digits}
use Rattle.rx_points.proofs.tests.products_of_constant_rows.Goals as goal

pub add_digit_products-requires-clause-digits : goal.add_digit_products-requires-clause-digits
add_digit_products-requires-clause-digits g c = λ w i p q.
    same_digits 1024 (i % 16 * (2 * 16) + (i / 16 * 2 + w)) (negsuc 2047) (omega arith) (record { low = omega (arith, ints); high = omega (arith, ints) })
