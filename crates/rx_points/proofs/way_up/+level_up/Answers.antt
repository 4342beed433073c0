use Rattle.std.proofs.Common.{ℕ, ◌+ℤ◌, length, subst, arith}
use Rattle.rx_laws.specs.Words.{of_words}
use Rattle.rx_ring.specs.Parts.{of_parts}
use Rattle.rx_points.specs.Residues.{AreSums, turned_back}
use Rattle.rx_points.proofs.ResidueBlocks.{blocks_more, no_blocks, sum_pointwise, back_pointwise}
use Rattle.rx_points.proofs.way_up.+level_up.Goals as goal

pub returns-then-count-gt0-clause-sum : goal.returns-then-count-gt0-clause-sum
returns-then-count-gt0-clause-sum t c =
    blocks_more (λ p q i. p i +ℤ q i) c.args.n (length c.split_at_mut-first.result.0.now) c.args.count c.args.near.now c.args.away.now _ _ _ _ _ _ (sum_pointwise c.args.n)
    (omega (arith, c.if-count-gt0.true)) c.split_at_mut-first.ensures.value c.split_at_mut-second.ensures.value
    c.split_at_mut-first.ensures.front_len c.split_at_mut-second.ensures.front_len c.split_at_mut-first.ensures.front_len
    c.join_blocks.ensures.sum c.level_up.ensures.sum

pub returns-then-count-gt0-clause-difference : goal.returns-then-count-gt0-clause-difference
returns-then-count-gt0-clause-difference t c =
    let n : ℕ = c.args.n in
    let first : AreSums n (turned_back n c.args.s (of_words c.split_at_mut-first.result.0.now) (of_words c.split_at_mut-second.result.0.now)) c.join_blocks.new.away =
    subst (λ m. AreSums m (turned_back m c.args.s (of_words c.split_at_mut-first.result.0.now) (of_words c.split_at_mut-second.result.0.now)) c.join_blocks.new.away)
    c.split_at_mut-first.ensures.front_len c.join_blocks.ensures.difference in
    blocks_more (turned_back n c.args.s) n n c.args.count c.args.near.now c.args.away.now _ _ _ _ _ _ (back_pointwise n c.args.s)
    (omega (arith, c.if-count-gt0.true)) c.split_at_mut-first.ensures.value c.split_at_mut-second.ensures.value
    c.split_at_mut-first.ensures.front_len c.split_at_mut-second.ensures.front_len (omega arith)
    first c.level_up.ensures.difference

pub returns-else-count-gt0-clause-sum : goal.returns-else-count-gt0-clause-sum
returns-else-count-gt0-clause-sum t c =
    no_blocks c.args.n (λ j i. of_parts c.args.n c.args.near.now j i +ℤ of_parts c.args.n c.args.away.now j i) c.args.count c.args.near.now
    (omega (arith, c.if-count-gt0.false)) c.requires.blocks

pub returns-else-count-gt0-clause-difference : goal.returns-else-count-gt0-clause-difference
returns-else-count-gt0-clause-difference t c =
    no_blocks c.args.n (λ j. turned_back c.args.n c.args.s (of_parts c.args.n c.args.near.now j) (of_parts c.args.n c.args.away.now j)) c.args.count c.args.away.now
    (omega (arith, c.if-count-gt0.false)) c.requires.blocks_away
