use Rattle.std.proofs.Common.{ℕ, ℤ, List, ◌++◌, refl, sym, subst, ◌∙◌}
use Rattle.rx_ring.specs.Blocks.{points}
use Rattle.rx_points.specs.Numbers.{AllFit, AreBlocks, part}
use Rattle.rx_points.proofs.Levels.{front_at, back_at, blocks_fit}
use Rattle.rx_points.proofs.RowsEvaluated.{both_fit}
use Rattle.rx_points.proofs.Exact.{digits_fit, exact}
use Rattle.rx_points.proofs.points.digit_points.Goals as goal

pub to_points-requires-clause-fits : goal.to_points-requires-clause-fits
to_points-requires-clause-fits c =
    digits_fit c.args.n c.args.points.now c.split_at_mut-near.result.0.now c.split_at_mut-near.result.1.now
    c.split_at_mut-near.ensures.value c.split_at_mut-near.ensures.front_len c.requires.digits

pub to_points-requires-2-clause-fits : goal.to_points-requires-2-clause-fits
to_points-requires-2-clause-fits c =
    subst AllFit (sym c.copy_from_slice.ensures.after)
    (digits_fit c.args.n c.args.points.now c.split_at_mut-near.result.0.now c.split_at_mut-near.result.1.now
    c.split_at_mut-near.ensures.value c.split_at_mut-near.ensures.front_len c.requires.digits)

pub returns-clause-near : goal.returns-clause-near
returns-clause-near c = λ p i l q.
    let n : ℕ = c.args.n in
    let ps : List ℤ = c.to_points.new.blocks in
    let qs : List ℤ = c.to_points-2.new.blocks in
    sym (front_at n 16 (ps ++ qs) ps qs p i refl c.to_points.ensures.points.size l q)
    ∙ exact n 0 c.args.points.now c.split_at_mut-near.result.0.now c.split_at_mut-near.result.1.now ps p i
    c.split_at_mut-near.ensures.value c.split_at_mut-near.ensures.front_len c.requires.digits c.to_points.ensures.points l q

pub returns-clause-away : goal.returns-clause-away
returns-clause-away c = λ p i l q.
    let n : ℕ = c.args.n in
    let ps : List ℤ = c.to_points.new.blocks in
    let qs : List ℤ = c.to_points-2.new.blocks in
    let front : List ℤ = c.split_at_mut-near.result.0.now in
    let are : AreBlocks n 16 (points n 4 n (part n front)) qs =
    subst (λ xs. AreBlocks n 16 (points n 4 n (part n xs)) qs) c.copy_from_slice.ensures.after c.to_points-2.ensures.points in
    sym (back_at n 16 (ps ++ qs) ps qs p i refl c.to_points.ensures.points.size)
    ∙ exact n n c.args.points.now front c.split_at_mut-near.result.1.now qs p i
    c.split_at_mut-near.ensures.value c.split_at_mut-near.ensures.front_len c.requires.digits are l q

pub returns-clause-fits : goal.returns-clause-fits
returns-clause-fits c =
    both_fit c.to_points.new.blocks c.to_points-2.new.blocks (blocks_fit _ _ _ _ c.to_points.ensures.points) (blocks_fit _ _ _ _ c.to_points-2.ensures.points)
