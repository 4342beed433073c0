use Rattle.std.proofs.Common.{◌≡◌, ℕ, suc, ◌-◌, ◌*◌, ◌/◌, ◌^◌, ◌<◌, ◌++◌, length, subst, sym, ◌∙◌, ap, arith}
use Rattle.rx_ring.specs.Parts.{of_parts}
use Rattle.rx_ring.specs.Blocks.{points}
use Rattle.rx_points.specs.Residues.{AreResidues}
use Rattle.rx_points.proofs.Levels.{half_of, halves}
use Rattle.rx_points.proofs.ResidueBlocks.{recounted_sums}
use Rattle.rx_points.proofs.KeyPoints.{down_more, down_none}
use Rattle.rx_points.proofs.key.+word_points.Goals as goal

pub level_down-requires-clause-blocks_away : goal.level_down-requires-clause-blocks_away
level_down-requires-clause-blocks_away t c =
    let some : 0 < c.args.d = omega (arith, c.if-d-gt0.true) in
    omega (arith, c.split_at_mut-near.ensures.back_len, c.requires.blocks, halves c.args.d c.args.count c.args.n some c.requires.power)

pub word_points-requires : goal.word_points-requires
word_points-requires t c =
    let some : 0 < c.args.d = omega (arith, c.if-d-gt0.true) in (
      omega arith,
      (
        half_of c.args.d c.args.count some c.requires.power,
        (
          c.level_down.ensures.sum.size,
          (omega (arith, c.level_down.ensures.stays, c.requires.room), omega (arith, c.requires.turn)),
        ),
      ),
    )

pub word_points-requires-then-d-gt0 : goal.word_points-requires-then-d-gt0
word_points-requires-then-d-gt0 t c =
    let some : 0 < c.args.d = omega (arith, c.if-d-gt0.true) in (
      omega arith,
      (
        half_of c.args.d c.args.count some c.requires.power,
        (
          c.level_down.ensures.difference.size,
          (omega (arith, c.word_points.ensures.stays, c.level_down.ensures.stays, c.requires.room), omega (arith, c.requires.turn)),
        ),
      ),
    )

pub returns-then-d-gt0-clause-points : goal.returns-then-d-gt0-clause-points
returns-then-d-gt0-clause-points t c =
    let n : ℕ = c.args.n in
    let e : ℕ = c.args.e in
    let d : ℕ = c.args.d - 1 in
    let some : 0 < c.args.d = omega (arith, c.if-d-gt0.true) in
    let half : c.args.count / 2 ≡ 2 ^ d = half_of c.args.d c.args.count some c.requires.power in
    let more : suc d ≡ c.args.d = omega arith in
    let count : 2 ^ suc d ≡ c.args.count = ap (λ k. 2 ^ k) more ∙ sym c.requires.power in
    let front : length c.split_at_mut-near.result.0.now ≡ 2 ^ d * n = c.split_at_mut-near.ensures.front_len ∙ ap (λ k. k * n) half in
    let whole : AreResidues n (2 ^ suc d) (points n (suc d) e (of_parts n c.args.blocks.now)) (c.word_points.new.blocks ++ c.word_points-then-d-gt0.new.blocks) =
    down_more n d e c.args.blocks.now c.split_at_mut-near.result.0.now c.split_at_mut-near.result.1.now c.level_down.new.near c.level_down.new.away
    c.word_points.new.blocks c.word_points-then-d-gt0.new.blocks c.split_at_mut-near.ensures.value front c.requires.turn
    (recounted_sums n _ _ _ c.level_down.new.near half c.level_down.ensures.sum)
    (recounted_sums n _ _ _ c.level_down.new.away half c.level_down.ensures.difference)
    (recounted_sums n _ _ _ c.word_points.new.blocks half c.word_points.ensures.points)
    (recounted_sums n _ _ _ c.word_points-then-d-gt0.new.blocks half c.word_points-then-d-gt0.ensures.points) in
    subst (λ k. AreResidues n k (points n c.args.d e (of_parts n c.args.blocks.now)) (c.word_points.new.blocks ++ c.word_points-then-d-gt0.new.blocks)) count
    (subst (λ k. AreResidues n (2 ^ suc d) (points n k e (of_parts n c.args.blocks.now)) (c.word_points.new.blocks ++ c.word_points-then-d-gt0.new.blocks)) more whole)

pub returns-else-d-gt0-clause-points : goal.returns-else-d-gt0-clause-points
returns-else-d-gt0-clause-points t c =
    let none : 0 ≡ c.args.d = omega (arith, c.if-d-gt0.false) in
    subst (λ k. AreResidues c.args.n c.args.count (points c.args.n k c.args.e (of_parts c.args.n c.args.blocks.now)) c.args.blocks.now) none
    (down_none c.args.n c.args.count c.args.e c.args.blocks.now c.requires.blocks)
