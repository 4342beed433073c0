use Rattle.std.proofs.Common.{◌≡◌, ℕ, suc, ◌-◌, ◌*◌, ◌/◌, ◌^◌, ◌<◌, ◌++◌, length, subst, sym, ◌∙◌, ap, arith}
use Rattle.rx_ring.specs.Parts.{of_parts}
use Rattle.rx_ring.specs.Blocks.{from_points}
use Rattle.rx_points.specs.Residues.{AreResidues}
use Rattle.rx_points.proofs.Levels.{half_of, halves}
use Rattle.rx_points.proofs.ResidueBlocks.{up_more, up_none, recounted_sums}
use Rattle.rx_points.proofs.way_up.+from_points.Goals as goal

pub from_points-requires : goal.from_points-requires
from_points-requires t c =
    let some : 0 < c.args.d = omega (arith, c.if-d-gt0.true) in (
      omega arith,
      (
        half_of c.args.d c.args.count some c.requires.power,
        (c.split_at_mut-near.ensures.front_len, (c.requires.room, omega (arith, c.requires.turn))),
      ),
    )

pub from_points-requires-then-d-gt0 : goal.from_points-requires-then-d-gt0
from_points-requires-then-d-gt0 t c =
    let some : 0 < c.args.d = omega (arith, c.if-d-gt0.true) in (
      omega arith,
      (
        half_of c.args.d c.args.count some c.requires.power,
        (
          omega (arith, c.split_at_mut-near.ensures.back_len, c.requires.blocks, halves c.args.d c.args.count c.args.n some c.requires.power),
          (omega (arith, c.from_points.ensures.stays, c.requires.room), omega (arith, c.requires.turn)),
        ),
      ),
    )

pub level_up-requires-clause-blocks : goal.level_up-requires-clause-blocks
level_up-requires-clause-blocks t c = c.from_points.ensures.blocks.size

pub level_up-requires-clause-blocks_away : goal.level_up-requires-clause-blocks_away
level_up-requires-clause-blocks_away t c = c.from_points-then-d-gt0.ensures.blocks.size

pub returns-then-d-gt0-clause-blocks : goal.returns-then-d-gt0-clause-blocks
returns-then-d-gt0-clause-blocks t c =
    let n : ℕ = c.args.n in
    let e : ℕ = c.args.e in
    let d : ℕ = c.args.d - 1 in
    let some : 0 < c.args.d = omega (arith, c.if-d-gt0.true) in
    let half : c.args.count / 2 ≡ 2 ^ d = half_of c.args.d c.args.count some c.requires.power in
    let more : suc d ≡ c.args.d = omega arith in
    let count : 2 ^ suc d ≡ c.args.count = ap (λ k. 2 ^ k) more ∙ sym c.requires.power in
    let front : length c.split_at_mut-near.result.0.now ≡ 2 ^ d * n = c.split_at_mut-near.ensures.front_len ∙ ap (λ k. k * n) half in
    let whole : AreResidues n (2 ^ suc d) (from_points n (suc d) e (of_parts n c.args.points.now)) (c.level_up.new.near ++ c.level_up.new.away) =
    up_more n d e c.args.points.now c.split_at_mut-near.result.0.now c.split_at_mut-near.result.1.now c.from_points.new.points
    c.from_points-then-d-gt0.new.points c.level_up.new.near c.level_up.new.away c.split_at_mut-near.ensures.value front
    (recounted_sums n _ _ _ c.from_points.new.points half c.from_points.ensures.blocks)
    (recounted_sums n _ _ _ c.from_points-then-d-gt0.new.points half c.from_points-then-d-gt0.ensures.blocks)
    (recounted_sums n _ _ _ c.level_up.new.near half c.level_up.ensures.sum)
    (recounted_sums n _ _ _ c.level_up.new.away half c.level_up.ensures.difference) in
    subst (λ k. AreResidues n k (from_points n c.args.d e (of_parts n c.args.points.now)) (c.level_up.new.near ++ c.level_up.new.away)) count
    (subst (λ k. AreResidues n (2 ^ suc d) (from_points n k e (of_parts n c.args.points.now)) (c.level_up.new.near ++ c.level_up.new.away)) more whole)

pub returns-else-d-gt0-clause-blocks : goal.returns-else-d-gt0-clause-blocks
returns-else-d-gt0-clause-blocks t c =
    let none : 0 ≡ c.args.d = omega (arith, c.if-d-gt0.false) in
    subst (λ k. AreResidues c.args.n c.args.count (from_points c.args.n k c.args.e (of_parts c.args.n c.args.points.now)) c.args.points.now) none
    (up_none c.args.n c.args.count c.args.e c.args.points.now c.requires.blocks)
