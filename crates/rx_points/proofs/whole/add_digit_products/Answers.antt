use Rattle.std.proofs.Common.{◌/◌, length, arith}
use Rattle.rx_points.specs.Rows.{row_digit}
use Rattle.rx_points.proofs.whole.add_digit_products.Goals as goal

pub row_points-requires-clause-digits : goal.row_points-requires-clause-digits
row_points-requires-clause-digits c = λ w i p q. c.requires.digits w i p (omega (arith, q))

pub returns-clause-sum : goal.returns-clause-sum
returns-clause-sum c = λ b key i p.
    c.add_products.ensures.sum (row_digit c.args.rows (length c.args.acc.now / 16) c.args.points.now) b c.row_points.ensures.points key i p
