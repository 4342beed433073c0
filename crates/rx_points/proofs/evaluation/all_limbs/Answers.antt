use Rattle.std.proofs.Common.{◌≡◌, ℕ, ◌+◌, ◌-◌, ◌*◌, ◌≤◌, length, take, drop, arith}
use Rattle.std.proofs.lemmas.List.{length-take, length-drop}
use Rattle.std.proofs.lemmas.Nat.{mul-le}
use Rattle.rx_points.proofs.RowsEvaluated.{limbs_of_more}
use Rattle.rx_points.proofs.evaluation.all_limbs.Goals as goal

pub loop-point-preserved : goal.loop-point-preserved
loop-point-preserved c =
    let n : ℕ = c.args.n in
    let p : ℕ = c.loop-point.point in
    let d : ℕ = p * n + n - p * n in
    let room : p * n + n ≤ length c.args.points.now = omega (arith, c.requires.points, mul-le (p + 1) n 32 n (omega arith) (omega arith)) in
    let part : length (take d (drop (p * n) c.args.points.now)) ≡ n =
    omega (arith, length-take d (drop (p * n) c.args.points.now), length-drop (p * n) c.args.points.now, room) in
    record {
      written = limbs_of_more n p _ d c.args.points.now c.loop-point.limbs c.limbs_into.new.limbs (omega arith) (omega arith)
          (omega arith) (omega arith) c.loop-point.invariant.written part c.limbs_into.ensures;
    }

pub returns : goal.returns
returns c = record { each = λ p l u q r o. c.loop-point.invariant.written p l u (omega arith) r o }
