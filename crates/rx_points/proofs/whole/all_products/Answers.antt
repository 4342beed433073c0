use Rattle.std.proofs.Common.{◌≡◌, ℕ, ◌+◌, ◌-◌, ◌*◌, ◌≤◌, length, take, drop, refl, arith}
use Rattle.std.proofs.lemmas.List.{length-take, length-drop}
use Rattle.std.proofs.lemmas.Nat.{mul-le}
use Rattle.rx_points.proofs.RowPoints.{points_more, points_left}
use Rattle.rx_points.proofs.whole.all_products.Goals as goal

pub loop-point-init : goal.loop-point-init
loop-point-init c = record { written = λ v key. record { each = λ p t q o. absurd (omega (arith, q)) }; left = λ k p. refl }

pub loop-point-preserved : goal.loop-point-preserved
loop-point-preserved c =
    let rows : ℕ = c.args.rows in
    let places : ℕ = c.args.places in
    let n : ℕ = c.args.rows * c.args.places in
    let p : ℕ = c.loop-point.point in
    let m : ℕ = p * places + places - p * places in
    let d : ℕ = p * n + n - p * n in
    let sums_room : p * places + places ≤ length c.loop-point.sums =
    omega (arith, c.loop-point.auto.sums, c.requires.size, mul-le (p + 1) places 32 places (omega arith) (omega arith)) in
    let points_room : p * n + n ≤ length c.args.points.now = omega (arith, c.requires.points, mul-le (p + 1) n 32 n (omega arith) (omega arith)) in
    let part : length (take m (drop (p * places) c.loop-point.sums)) ≡ places =
    omega (arith, length-take m (drop (p * places) c.loop-point.sums), length-drop (p * places) c.loop-point.sums, sums_room) in
    let digits : length (take d (drop (p * n) c.args.points.now)) ≡ n =
    omega (arith, length-take d (drop (p * n) c.args.points.now), length-drop (p * n) c.args.points.now, points_room) in
    let size : length c.loop-point.sums ≡ 32 * places = omega (arith, c.loop-point.auto.sums, c.requires.size) in
    let new : length c.point_product.new.sums ≡ places = omega (arith, c.point_product.auto.sums, part) in
    record {
      written = λ v key.
          points_more rows places p _ m d (p * (6 * n) + 6 * n - p * (6 * n)) c.args.points.now c.args.limbs.now v c.args.sums.now c.loop-point.sums c.point_product.new.sums
          (omega arith) size new (omega arith) (omega arith) (omega arith) c.requires.some part digits
          (c.loop-point.invariant.written v key) c.loop-point.invariant.left key c.point_product.ensures.product;
      left = points_left places p _ c.loop-point.sums c.point_product.new.sums c.args.sums.now (omega arith) size (omega (arith, new)) (omega arith) c.loop-point.invariant.left;
    }

pub returns-clause-products : goal.returns-clause-products
returns-clause-products c = λ v key. record {
  each = λ p t q o. (c.loop-point.invariant.written v key).each p t (omega arith) o;
}
