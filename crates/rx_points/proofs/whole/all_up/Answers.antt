use Rattle.std.proofs.Common.{ℕ, ◌+◌, ◌++◌, List, refl, sym, ◌∙◌, ap}
use Rattle.rx_ring.specs.Parts.{of_parts}
use Rattle.rx_ring.proofs.Levels.{from_points_same}
use Rattle.rx_points.specs.Residues.{residue}
use Rattle.rx_points.proofs.ResidueBlocks.{part_front, part_back}
use Rattle.rx_points.proofs.whole.all_up.Goals as goal

pub returns-clause-near : goal.returns-clause-near
returns-clause-near c = λ j t l q.
    let n : ℕ = c.args.places in
    let xs : List ℕ = c.args.sums.now in
    let front : List ℕ = c.split_at_mut-near.result.0.now in
    let back : List ℕ = c.split_at_mut-near.result.1.now in
    let ps : List ℕ = c.from_points.new.points in
    let qs : List ℕ = c.from_points-2.new.points in
    ap residue (sym (part_front n 16 (ps ++ qs) ps qs j t refl c.from_points.ensures.blocks.size l q)) ∙ c.from_points.ensures.blocks.each j t l q
    ∙ ap residue (from_points_same n 4 0 (of_parts n front) (of_parts n xs)
    (λ k u v w. part_front n 16 xs front back k u c.split_at_mut-near.ensures.value c.split_at_mut-near.ensures.front_len v w) j t l q)

pub returns-clause-away : goal.returns-clause-away
returns-clause-away c = λ j t l q.
    let n : ℕ = c.args.places in
    let xs : List ℕ = c.args.sums.now in
    let front : List ℕ = c.split_at_mut-near.result.0.now in
    let back : List ℕ = c.split_at_mut-near.result.1.now in
    let ps : List ℕ = c.from_points.new.points in
    let qs : List ℕ = c.from_points-2.new.points in
    ap residue (sym (part_back n 16 (ps ++ qs) ps qs j t refl c.from_points.ensures.blocks.size)) ∙ c.from_points-2.ensures.blocks.each j t l q
    ∙ ap residue (from_points_same n 4 n (of_parts n back) (λ p. of_parts n xs (16 + p))
    (λ k u v w. part_back n 16 xs front back k u c.split_at_mut-near.ensures.value c.split_at_mut-near.ensures.front_len) j t l q)
