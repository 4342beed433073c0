use Rattle.std.proofs.Common.{ℕ, ◌+◌, ◌-◌, length, subst, arith}
use Rattle.rx_laws.specs.Words.{of_numbers}
use Rattle.rx_points.specs.Numbers.{HoldsTurns}
use Rattle.rx_points.proofs.Turns.{turn_fits, sum_of_turn, difference_of_turn}
use Rattle.rx_points.proofs.lanes.turn_and_add.Goals as goal

pub add_and_subtract-requires-clause-fits_turned : goal.add_and_subtract-requires-clause-fits_turned
add_and_subtract-requires-clause-fits_turned c =
    let n : ℕ = length c.args.near.now in
    let holds : HoldsTurns n (of_numbers c.args.away.now) c.lay_out_turns.new.turns =
    subst (λ m. HoldsTurns m (of_numbers c.args.away.now) c.lay_out_turns.new.turns) c.requires.same c.lay_out_turns.ensures.turns in
    turn_fits n c.args.s (n - c.args.s + n - (n - c.args.s)) _ c.lay_out_turns.new.turns holds c.requires.turn (omega arith)

pub returns-clause-sum : goal.returns-clause-sum
returns-clause-sum c =
    let n : ℕ = length c.args.near.now in
    let holds : HoldsTurns n (of_numbers c.args.away.now) c.lay_out_turns.new.turns =
    subst (λ m. HoldsTurns m (of_numbers c.args.away.now) c.lay_out_turns.new.turns) c.requires.same c.lay_out_turns.ensures.turns in
    sum_of_turn n c.args.s (n - c.args.s + n - (n - c.args.s)) (of_numbers c.args.near.now) (of_numbers c.args.away.now)
    c.lay_out_turns.new.turns _ holds c.requires.turn (omega arith) c.add_and_subtract.ensures.sum

pub returns-clause-difference : goal.returns-clause-difference
returns-clause-difference c =
    let n : ℕ = length c.args.near.now in
    let holds : HoldsTurns n (of_numbers c.args.away.now) c.lay_out_turns.new.turns =
    subst (λ m. HoldsTurns m (of_numbers c.args.away.now) c.lay_out_turns.new.turns) c.requires.same c.lay_out_turns.ensures.turns in
    difference_of_turn n c.args.s (n - c.args.s + n - (n - c.args.s)) (of_numbers c.args.near.now) (of_numbers c.args.away.now)
    c.lay_out_turns.new.turns _ holds c.requires.turn (omega arith) c.add_and_subtract.ensures.difference
