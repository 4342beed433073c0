use Rattle.std.proofs.Common.{ℕ, ℤ, ◌+◌, ◌-◌, ◌*◌, List, length, arith}
use Rattle.rx_laws.specs.Words.{of_numbers}
use Rattle.rx_points.proofs.WindowSums.{sum_none, window_more, number_first, number_in}
use Rattle.rx_points.proofs.windows.window_sums.Goals as goal

pub loop-i-init : goal.loop-i-init
loop-i-init c =
    let a : ℕ → ℤ = of_numbers c.args.digits.now in
    let b : ℕ → ℤ = of_numbers c.args.numbers.now in
    record {
      first = sum_none a b 0;
      second = sum_none a b c.args.stride;
      third = sum_none a b (2 * c.args.stride);
      fourth = sum_none a b (3 * c.args.stride);
    }

pub loop-i-preserved : goal.loop-i-preserved
loop-i-preserved c =
    let n : ℕ = length c.args.digits.now in
    let i : ℕ = c.loop-i.i in
    let s : ℕ = c.args.stride in
    let xs : List ℤ = c.args.digits.now in
    let ys : List ℤ = c.args.numbers.now in
    record {
      first = window_more i c.loop-i.first-bits xs ys _ 0 (omega (arith, c.loop-i.auto.first-fits))
          c.loop-i.invariant.first (c.requires.fits.each i) (c.requires.fits_numbers.each (0 + i)) (number_first n i ys (omega arith));
      second = window_more i c.loop-i.second-bits xs ys _ s (omega (arith, c.loop-i.auto.second-fits))
          c.loop-i.invariant.second (c.requires.fits.each i) (c.requires.fits_numbers.each (s + i)) (number_in s (s + n - s) i ys (omega arith));
      third = window_more i c.loop-i.third-bits xs ys _ (2 * s) (omega (arith, c.loop-i.auto.third-fits))
          c.loop-i.invariant.third (c.requires.fits.each i) (c.requires.fits_numbers.each (2 * s + i)) (number_in (2 * s) (2 * s + n - 2 * s) i ys (omega arith));
      fourth = window_more i c.loop-i.fourth-bits xs ys _ (3 * s) (omega (arith, c.loop-i.auto.fourth-fits))
          c.loop-i.invariant.fourth (c.requires.fits.each i) (c.requires.fits_numbers.each (3 * s + i)) (number_in (3 * s) (3 * s + n - 3 * s) i ys (omega arith));
    }
