use Rattle.std.proofs.Common.{ℕ, ◌++◌, List, refl, sym, subst, ◌∙◌, ap}
use Rattle.rx_ring.specs.Parts.{of_parts}
use Rattle.rx_ring.specs.Blocks.{points}
use Rattle.rx_ring.proofs.BlockSums.{points_same}
use Rattle.rx_points.specs.Residues.{residue, AreResidues}
use Rattle.rx_points.proofs.ResidueBlocks.{part_front, part_back}
use Rattle.rx_points.proofs.evaluation.all_points.Goals as goal

pub returns-clause-near : goal.returns-clause-near
returns-clause-near c = λ p i l q.
    let n : ℕ = c.args.n in
    let xs : List ℕ = c.args.points.now in
    let front : List ℕ = c.split_at_mut-near.result.0.now in
    let back : List ℕ = c.split_at_mut-near.result.1.now in
    let ps : List ℕ = c.word_points.new.blocks in
    let qs : List ℕ = c.word_points-2.new.blocks in
    ap residue (sym (part_front n 16 (ps ++ qs) ps qs p i refl c.word_points.ensures.points.size l q)) ∙ c.word_points.ensures.points.each p i l q
    ∙ ap residue (points_same n 4 0 (of_parts n front) (of_parts n xs) p i
    (λ k u v w. part_front n 16 xs front back k u c.split_at_mut-near.ensures.value c.split_at_mut-near.ensures.front_len v w) l q)

pub returns-clause-away : goal.returns-clause-away
returns-clause-away c = λ p i l q.
    let n : ℕ = c.args.n in
    let xs : List ℕ = c.args.points.now in
    let front : List ℕ = c.split_at_mut-near.result.0.now in
    let back : List ℕ = c.split_at_mut-near.result.1.now in
    let ps : List ℕ = c.word_points.new.blocks in
    let qs : List ℕ = c.word_points-2.new.blocks in
    let are : AreResidues n 16 (points n 4 n (of_parts n front)) qs =
    subst (λ zs. AreResidues n 16 (points n 4 n (of_parts n zs)) qs) c.copy_from_slice.ensures.after c.word_points-2.ensures.points in
    ap residue (sym (part_back n 16 (ps ++ qs) ps qs p i refl c.word_points.ensures.points.size)) ∙ are.each p i l q
    ∙ ap residue (points_same n 4 n (of_parts n front) (of_parts n xs) p i
    (λ k u v w. part_front n 16 xs front back k u c.split_at_mut-near.ensures.value c.split_at_mut-near.ensures.front_len v w) l q)
