use Rattle.std.proofs.Common.{ℕ, ◌+ℤ◌, ◌-ℤ◌, subst, arith}
use Rattle.rx_laws.specs.Words.{of_words}
use Rattle.rx_ring.specs.Parts.{of_parts}
use Rattle.rx_ring.specs.Polynomial.{turned}
use Rattle.rx_points.specs.Residues.{AreSums}
use Rattle.rx_points.proofs.ResidueBlocks.{blocks_more, no_blocks}
use Rattle.rx_points.proofs.KeyPoints.{turn_added, turn_subtracted}
use Rattle.rx_points.proofs.key.+level_down.Goals as goal

pub returns-then-count-gt0-clause-sum : goal.returns-then-count-gt0-clause-sum
returns-then-count-gt0-clause-sum t c =
    let n : ℕ = c.args.n in
    let first : AreSums n (λ i. of_words c.split_at_mut-first.result.0.now i +ℤ turned n (of_words c.split_at_mut-second.result.0.now) c.args.s i) c.part_blocks.new.near =
    subst (λ m. AreSums m (λ i. of_words c.split_at_mut-first.result.0.now i +ℤ turned m (of_words c.split_at_mut-second.result.0.now) c.args.s i) c.part_blocks.new.near)
    c.split_at_mut-first.ensures.front_len c.part_blocks.ensures.sum in
    blocks_more (λ p q i. p i +ℤ turned n q c.args.s i) n n c.args.count c.args.near.now c.args.away.now _ _ _ _ _ _ (turn_added n c.args.s c.requires.turn)
    (omega (arith, c.if-count-gt0.true)) c.split_at_mut-first.ensures.value c.split_at_mut-second.ensures.value
    c.split_at_mut-first.ensures.front_len c.split_at_mut-second.ensures.front_len (omega arith) first c.level_down.ensures.sum

pub returns-then-count-gt0-clause-difference : goal.returns-then-count-gt0-clause-difference
returns-then-count-gt0-clause-difference t c =
    let n : ℕ = c.args.n in
    let first : AreSums n (λ i. of_words c.split_at_mut-first.result.0.now i -ℤ turned n (of_words c.split_at_mut-second.result.0.now) c.args.s i) c.part_blocks.new.away =
    subst (λ m. AreSums m (λ i. of_words c.split_at_mut-first.result.0.now i -ℤ turned m (of_words c.split_at_mut-second.result.0.now) c.args.s i) c.part_blocks.new.away)
    c.split_at_mut-first.ensures.front_len c.part_blocks.ensures.difference in
    blocks_more (λ p q i. p i -ℤ turned n q c.args.s i) n n c.args.count c.args.near.now c.args.away.now _ _ _ _ _ _ (turn_subtracted n c.args.s c.requires.turn)
    (omega (arith, c.if-count-gt0.true)) c.split_at_mut-first.ensures.value c.split_at_mut-second.ensures.value
    c.split_at_mut-first.ensures.front_len c.split_at_mut-second.ensures.front_len (omega arith) first c.level_down.ensures.difference

pub returns-else-count-gt0-clause-sum : goal.returns-else-count-gt0-clause-sum
returns-else-count-gt0-clause-sum t c =
    no_blocks c.args.n (λ j i. of_parts c.args.n c.args.near.now j i +ℤ turned c.args.n (of_parts c.args.n c.args.away.now j) c.args.s i) c.args.count c.args.near.now
    (omega (arith, c.if-count-gt0.false)) c.requires.blocks

pub returns-else-count-gt0-clause-difference : goal.returns-else-count-gt0-clause-difference
returns-else-count-gt0-clause-difference t c =
    no_blocks c.args.n (λ j i. of_parts c.args.n c.args.near.now j i -ℤ turned c.args.n (of_parts c.args.n c.args.away.now j) c.args.s i) c.args.count c.args.away.now
    (omega (arith, c.if-count-gt0.false)) c.requires.blocks_away
