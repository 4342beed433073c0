use Rattle.std.proofs.Common.{◌≡◌, ℕ, pos, ◌+◌, ◌-◌, ◌*◌, ◌^◌, ◌≤◌, length, get_or, arith}
use Rattle.rx_laws.specs.Words.{of_numbers}
use Rattle.rx_points.proofs.LimbProducts.{taken_more, taken_none, total_exact, total_wrapped, part_small, fewer}
use Rattle.rx_points.proofs.products.+subtract_windows.Goals as goal

pub subtract_windows-requires : goal.subtract_windows-requires
subtract_windows-requires t c =
    let rest : length c.split_at_mut-four.result.1.now + 4 ≡ length c.args.sums.now =
    omega (arith, c.split_at_mut-four.ensures.back_len, c.if-sums-gt0.true, c.requires.fours) in (
      omega (arith, rest),
      (
        fewer c.args.rows (length c.args.sums.now) (length c.split_at_mut-four.result.1.now) (length c.args.digits.now) rest c.requires.places,
        (
          omega (arith, rest, c.requires.fours),
          (c.requires.twice, (c.requires.few, (c.requires.fits, (c.requires.fits_turns, c.requires.shift)))),
        ),
      ),
    )

pub returns-then-sums-gt0-clause-exact : goal.returns-then-sums-gt0-clause-exact
returns-then-sums-gt0-clause-exact t c = λ small.
    let n : ℕ = length c.args.digits.now in
    let rows : ℕ = c.args.rows in
    let len : ℕ = length c.args.sums.now in
    let first : ℕ = rows * (len - 4) in
    let m : ℕ = first + n + 3 * rows - first in
    let four : 4 ≤ len = omega (arith, c.if-sums-gt0.true, c.requires.fours) in
    taken_more n rows c.args.shift (of_numbers c.args.digits.now) (of_numbers c.args.turns.now) (λ k. get_or c.window_totals-totals.result k (pos 0))
    c.args.sums.now c.split_at_mut-four.result.0.now c.split_at_mut-four.result.1.now c.subtract_four.new.sums c.subtract_windows.new.sums
    c.split_at_mut-four.ensures.value c.split_at_mut-four.ensures.front_len (omega (arith, c.subtract_four.auto.sums, c.split_at_mut-four.ensures.front_len))
    c.subtract_four.ensures
    (λ k p. total_exact n rows c.args.shift len m k (of_numbers c.args.digits.now) c.args.turns.now c.window_totals-totals.result p four (omega arith)
    (λ j q. c.window_totals-totals.ensures.exact j q (part_small first m (2 ^ 9) c.args.turns.now small)))
    (omega (arith, four, c.split_at_mut-four.ensures.back_len)) (c.subtract_windows.ensures.exact small)

pub returns-then-sums-gt0-clause-high : goal.returns-then-sums-gt0-clause-high
returns-then-sums-gt0-clause-high t c = λ high.
    let n : ℕ = length c.args.digits.now in
    let rows : ℕ = c.args.rows in
    let len : ℕ = length c.args.sums.now in
    let first : ℕ = rows * (len - 4) in
    let m : ℕ = first + n + 3 * rows - first in
    let four : 4 ≤ len = omega (arith, c.if-sums-gt0.true, c.requires.fours) in
    taken_more n rows c.args.shift (of_numbers c.args.digits.now) (of_numbers c.args.turns.now) (λ k. get_or c.window_totals-totals.result k (pos 0))
    c.args.sums.now c.split_at_mut-four.result.0.now c.split_at_mut-four.result.1.now c.subtract_four.new.sums c.subtract_windows.new.sums
    c.split_at_mut-four.ensures.value c.split_at_mut-four.ensures.front_len (omega (arith, c.subtract_four.auto.sums, c.split_at_mut-four.ensures.front_len))
    c.subtract_four.ensures
    (λ k p. total_wrapped n rows c.args.shift len m k (of_numbers c.args.digits.now) c.args.turns.now c.window_totals-totals.result p four (omega arith) high
    c.window_totals-totals.ensures.wrapped)
    (omega (arith, four, c.split_at_mut-four.ensures.back_len)) (c.subtract_windows.ensures.high high)

pub returns-else-sums-gt0-clause-exact : goal.returns-else-sums-gt0-clause-exact
returns-else-sums-gt0-clause-exact t c = λ small.
    taken_none (length c.args.digits.now) c.args.rows c.args.shift (of_numbers c.args.digits.now) (of_numbers c.args.turns.now) c.args.sums.now
    (omega (arith, c.if-sums-gt0.false))

pub returns-else-sums-gt0-clause-high : goal.returns-else-sums-gt0-clause-high
returns-else-sums-gt0-clause-high t c = λ high.
    taken_none (length c.args.digits.now) c.args.rows c.args.shift (of_numbers c.args.digits.now) (of_numbers c.args.turns.now) c.args.sums.now
    (omega (arith, c.if-sums-gt0.false))
