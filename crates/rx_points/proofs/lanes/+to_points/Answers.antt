use Rattle.std.proofs.Common.{◌≡◌, ℕ, suc, ◌-◌, ◌*◌, ◌/◌, ◌^◌, ◌<◌, ◌++◌, length, subst, sym, ◌∙◌, ap, arith}
use Rattle.rx_ring.specs.Blocks.{points}
use Rattle.rx_points.specs.Numbers.{AreBlocks, part}
use Rattle.rx_points.proofs.Levels.{points_more, points_none, half_of, halves, blocks_fit, recounted}
use Rattle.rx_points.proofs.lanes.+to_points.Goals as goal

pub level-requires-clause-blocks_away : goal.level-requires-clause-blocks_away
level-requires-clause-blocks_away t c =
    let some : 0 < c.args.d = omega (arith, c.if-d-gt0.true) in
    omega (arith, c.split_at_mut-near.ensures.back_len, c.requires.blocks, halves c.args.d c.args.count c.args.n some c.requires.power)

pub to_points-requires : goal.to_points-requires
to_points-requires t c =
    let some : 0 < c.args.d = omega (arith, c.if-d-gt0.true) in (
      omega arith,
      (
        half_of c.args.d c.args.count some c.requires.power,
        (
          c.level.ensures.sum.size,
          (
            omega (arith, c.level.ensures.stays, c.requires.twice),
            (c.requires.vectors, (blocks_fit _ _ _ _ c.level.ensures.sum, omega (arith, c.requires.turn))),
          ),
        ),
      ),
    )

pub to_points-requires-then-d-gt0 : goal.to_points-requires-then-d-gt0
to_points-requires-then-d-gt0 t c =
    let some : 0 < c.args.d = omega (arith, c.if-d-gt0.true) in (
      omega arith,
      (
        half_of c.args.d c.args.count some c.requires.power,
        (
          c.level.ensures.difference.size,
          (
            omega (arith, c.to_points.ensures.stays, c.level.ensures.stays, c.requires.twice),
            (c.requires.vectors, (blocks_fit _ _ _ _ c.level.ensures.difference, omega (arith, c.requires.turn))),
          ),
        ),
      ),
    )

pub returns-then-d-gt0-clause-points : goal.returns-then-d-gt0-clause-points
returns-then-d-gt0-clause-points t c =
    let n : ℕ = c.args.n in
    let e : ℕ = c.args.e in
    let d : ℕ = c.args.d - 1 in
    let some : 0 < c.args.d = omega (arith, c.if-d-gt0.true) in
    let half : c.args.count / 2 ≡ 2 ^ d = half_of c.args.d c.args.count some c.requires.power in
    let more : suc d ≡ c.args.d = omega arith in
    let count : 2 ^ suc d ≡ c.args.count = ap (λ k. 2 ^ k) more ∙ sym c.requires.power in
    let front : length c.split_at_mut-near.result.0.now ≡ 2 ^ d * n = c.split_at_mut-near.ensures.front_len ∙ ap (λ k. k * n) half in
    let whole : AreBlocks n (2 ^ suc d) (points n (suc d) e (part n c.args.blocks.now)) (c.to_points.new.blocks ++ c.to_points-then-d-gt0.new.blocks) =
    points_more n d e c.args.blocks.now c.split_at_mut-near.result.0.now c.split_at_mut-near.result.1.now c.level.new.near c.level.new.away
    c.to_points.new.blocks c.to_points-then-d-gt0.new.blocks c.split_at_mut-near.ensures.value front c.requires.turn
    (recounted n _ _ _ c.level.new.near half c.level.ensures.sum)
    (recounted n _ _ _ c.level.new.away half c.level.ensures.difference)
    (recounted n _ _ _ c.to_points.new.blocks half c.to_points.ensures.points)
    (recounted n _ _ _ c.to_points-then-d-gt0.new.blocks half c.to_points-then-d-gt0.ensures.points) in
    subst (λ k. AreBlocks n k (points n c.args.d e (part n c.args.blocks.now)) (c.to_points.new.blocks ++ c.to_points-then-d-gt0.new.blocks)) count
    (subst (λ k. AreBlocks n (2 ^ suc d) (points n k e (part n c.args.blocks.now)) (c.to_points.new.blocks ++ c.to_points-then-d-gt0.new.blocks)) more whole)

pub returns-else-d-gt0-clause-points : goal.returns-else-d-gt0-clause-points
returns-else-d-gt0-clause-points t c =
    let none : 0 ≡ c.args.d = omega (arith, c.if-d-gt0.false) in
    subst (λ k. AreBlocks c.args.n c.args.count (points c.args.n k c.args.e (part c.args.n c.args.blocks.now)) c.args.blocks.now) none
    (points_none c.args.n c.args.count c.args.e c.args.blocks.now c.requires.blocks c.requires.fits)
