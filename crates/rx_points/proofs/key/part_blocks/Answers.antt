use Rattle.std.proofs.Common.{length}
use Rattle.rx_laws.specs.Words.{of_words}
use Rattle.rx_ring.specs.Polynomial.{turned}
use Rattle.rx_points.specs.Residues.{AreSums}
use Rattle.std.proofs.Common.{ℕ, subst, refl}
use Rattle.rx_points.proofs.KeyPoints.{with_sum, with_difference}
use Rattle.rx_points.proofs.key.part_blocks.Goals as goal

pub returns-clause-sum : goal.returns-clause-sum
returns-clause-sum c =
    let n : ℕ = length c.args.near.now in
    let turns : AreSums n (turned n (of_words c.args.away.now) c.args.s) c.turn_into.new.room =
    subst (λ m. AreSums m (turned m (of_words c.args.away.now) c.args.s) c.turn_into.new.room) c.requires.same c.turn_into.ensures in
    with_sum n n (of_words c.args.near.now) (turned n (of_words c.args.away.now) c.args.s) c.turn_into.new.room
    c.add_and_subtract.new.near refl turns c.add_and_subtract.ensures.sum

pub returns-clause-difference : goal.returns-clause-difference
returns-clause-difference c =
    let n : ℕ = length c.args.near.now in
    let turns : AreSums n (turned n (of_words c.args.away.now) c.args.s) c.turn_into.new.room =
    subst (λ m. AreSums m (turned m (of_words c.args.away.now) c.args.s) c.turn_into.new.room) c.requires.same c.turn_into.ensures in
    with_difference n n (of_words c.args.near.now) (turned n (of_words c.args.away.now) c.args.s) c.turn_into.new.room
    c.add_and_subtract.new.away refl turns c.add_and_subtract.ensures.difference
