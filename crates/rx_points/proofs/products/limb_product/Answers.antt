use Rattle.std.proofs.Common.{◌≡◌, ℕ, ◌*◌, length, subst, arith}
use Rattle.rx_laws.specs.Words.{of_numbers}
use Rattle.rx_points.specs.Numbers.{HoldsTurns}
use Rattle.rx_points.proofs.LimbProducts.{adds_wide, adds_high, turns_small, turns_fit}
use Rattle.rx_points.proofs.products.limb_product.Goals as goal

pub subtract_windows-requires-clause-fits_turns : goal.subtract_windows-requires-clause-fits_turns
subtract_windows-requires-clause-fits_turns c =
    turns_fit (length c.args.limb.now) (of_numbers c.args.limb.now) c.lay_out_turns.new.turns
    (omega (arith, c.lay_out_turns.ensures.stays, c.requires.twice, c.requires.same)) c.lay_out_turns.ensures.turns

pub returns-clause-small : goal.returns-clause-small
returns-clause-small c = λ small.
    let n : ℕ = length c.args.digits.now in
    let size : length c.lay_out_turns.new.turns ≡ 2 * n = omega (arith, c.lay_out_turns.ensures.stays, c.requires.twice) in
    let holds : HoldsTurns n (of_numbers c.args.limb.now) c.lay_out_turns.new.turns =
    subst (λ m. HoldsTurns m (of_numbers c.args.limb.now) c.lay_out_turns.new.turns) c.requires.same c.lay_out_turns.ensures.turns in
    adds_wide n c.args.rows c.args.shift (of_numbers c.args.digits.now) (of_numbers c.args.limb.now) c.lay_out_turns.new.turns
    c.args.sums.now c.subtract_windows.new.sums c.requires.some c.requires.places holds (λ i. omega (arith, small i))
    (c.subtract_windows.ensures.exact (turns_small n c.args.limb.now c.lay_out_turns.new.turns size holds small))

pub returns-clause-wide : goal.returns-clause-wide
returns-clause-wide c = λ high small.
    let n : ℕ = length c.args.digits.now in
    let holds : HoldsTurns n (of_numbers c.args.limb.now) c.lay_out_turns.new.turns =
    subst (λ m. HoldsTurns m (of_numbers c.args.limb.now) c.lay_out_turns.new.turns) c.requires.same c.lay_out_turns.ensures.turns in
    adds_wide n c.args.rows c.args.shift (of_numbers c.args.digits.now) (of_numbers c.args.limb.now) c.lay_out_turns.new.turns
    c.args.sums.now c.subtract_windows.new.sums c.requires.some c.requires.places holds small (c.subtract_windows.ensures.high high)

pub returns-clause-high : goal.returns-clause-high
returns-clause-high c = λ high.
    let n : ℕ = length c.args.digits.now in
    let holds : HoldsTurns n (of_numbers c.args.limb.now) c.lay_out_turns.new.turns =
    subst (λ m. HoldsTurns m (of_numbers c.args.limb.now) c.lay_out_turns.new.turns) c.requires.same c.lay_out_turns.ensures.turns in
    adds_high n c.args.rows c.args.shift (of_numbers c.args.digits.now) (of_numbers c.args.limb.now) c.lay_out_turns.new.turns
    c.args.sums.now c.subtract_windows.new.sums c.requires.some c.requires.places holds high (c.subtract_windows.ensures.high (omega (arith, high)))
