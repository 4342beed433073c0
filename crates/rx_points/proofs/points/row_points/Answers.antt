use Rattle.std.proofs.Common.{◌≡◌, ◌*◌, ◌/◌, ◌∙◌, ap, arith}
use Rattle.rx_points.proofs.RowsEvaluated.{digits_within, digit_rows}
use Rattle.rx_points.proofs.points.row_points.Goals as goal

pub digit_points-requires-clause-vectors : goal.digit_points-requires-clause-vectors
digit_points-requires-clause-vectors c =
    let even : c.args.places ≡ 8 * (2 * (c.args.places / 16)) = omega (arith, c.requires.sixteen) in
    let whole : c.args.rows * c.args.places ≡ 8 * (c.args.rows * (2 * (c.args.places / 16))) = ap (λ k. c.args.rows * k) even ∙ omega arith in
    omega (arith, whole)

pub digit_points-requires-clause-digits : goal.digit_points-requires-clause-digits
digit_points-requires-clause-digits c = λ j i p q. digits_within c.args.rows c.args.places j i c.args.points.now c.requires.some p q c.requires.digits

pub returns-clause-points : goal.returns-clause-points
returns-clause-points c =
    let even : c.args.places ≡ 16 * (c.args.places / 16) = omega (arith, c.requires.sixteen) in
    digit_rows c.args.rows c.args.places (c.args.places / 16) c.args.points.now c.digit_points.new.points even c.digit_points.ensures.near c.digit_points.ensures.away
