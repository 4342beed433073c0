use Rattle.std.proofs.Common.{◌≡◌, ℕ, ◌+◌, ◌*◌, ◌/◌, ◌%◌, ◌^◌, get_or, arith}
use Rattle.rx_points.proofs.RowsEvaluated.{key_rows, key_fits}
use Rattle.rx_points.proofs.evaluation.evaluate.Goals as goal

pub returns-clause-evaluated : goal.returns-clause-evaluated
returns-clause-evaluated c =
    let places : ℕ = c.args.places in
    let even : places ≡ 16 * (places / 16) = omega (arith, c.requires.sixteen) in
    key_rows c.args.rows places c.args.stride (places / 16) c.args.words.now c.key_words.new.values c.all_points.new.points c.all_limbs.new.limbs
    c.requires.some even c.key_words.ensures c.all_points.ensures.near c.all_points.ensures.away c.all_limbs.ensures

pub returns-clause-fits : goal.returns-clause-fits
returns-clause-fits c =
    let n : ℕ = c.args.rows * c.args.places in
    key_fits n (λ p u. get_or c.all_points.new.points (p * n + u) 0 % 2 ^ 69) c.all_limbs.new.limbs
    (omega (arith, c.all_limbs.auto.limbs, c.requires.size)) c.all_limbs.ensures
