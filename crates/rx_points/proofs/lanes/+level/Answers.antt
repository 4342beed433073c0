use Rattle.std.proofs.Common.{◌+ℤ◌, ◌-ℤ◌, arith}
use Rattle.rx_points.proofs.Levels.{level_more}
use Rattle.rx_points.proofs.lanes.+level.Goals as goal

pub returns-then-count-gt0-clause-sum : goal.returns-then-count-gt0-clause-sum
returns-then-count-gt0-clause-sum t c =
    level_more (λ x y. x +ℤ y) c.args.n c.args.count c.args.s c.args.near.now c.args.away.now _ _ _ _ _ _
    (omega (arith, c.if-count-gt0.true)) c.requires.turn c.split_at_mut-first.ensures.value c.split_at_mut-second.ensures.value
    c.split_at_mut-first.ensures.front_len c.split_at_mut-second.ensures.front_len c.turn_and_add.ensures.sum c.level.ensures.sum

pub returns-then-count-gt0-clause-difference : goal.returns-then-count-gt0-clause-difference
returns-then-count-gt0-clause-difference t c =
    level_more (λ x y. x -ℤ y) c.args.n c.args.count c.args.s c.args.near.now c.args.away.now _ _ _ _ _ _
    (omega (arith, c.if-count-gt0.true)) c.requires.turn c.split_at_mut-first.ensures.value c.split_at_mut-second.ensures.value
    c.split_at_mut-first.ensures.front_len c.split_at_mut-second.ensures.front_len c.turn_and_add.ensures.difference c.level.ensures.difference
