use Rattle.std.proofs.Common.{◌≡◌, ℕ, ℤ, ◌+◌, ◌-◌, ◌*◌, ◌^◌, ◌<◌, ◌≤◌, min, List, length, take, drop, w32, w64, ◌∙◌, ap, arith, FitsSigned}
use Rattle.std.proofs.lemmas.List.{length-take, length-drop}
use Rattle.std.specs.Int.{int_wrap}
use Rattle.rx_laws.specs.Words.{of_numbers}
use Rattle.rx_points.specs.Windows.{window_sum}
use Rattle.rx_points.proofs.Chunks.{chunked, chunked_none, chunked_wraps, chunked_exact, size_16, total_more, total_size, total_fits, one_of_four}
use Rattle.rx_points.proofs.windows.window_totals.Goals as goal

pub loop-chunk-init : goal.loop-chunk-init
loop-chunk-init c =
    let n : ℕ = length c.args.digits.now in
    let a : ℕ → ℤ = of_numbers c.args.digits.now in
    let b : ℕ → ℤ = of_numbers c.args.numbers.now in
    record {
      first = chunked_none n a b 0;
      second = chunked_none n a b c.args.stride;
      third = chunked_none n a b (2 * c.args.stride);
      fourth = chunked_none n a b (3 * c.args.stride);
      first_size = omega arith;
      second_size = omega arith;
      third_size = omega arith;
      fourth_size = omega arith;
    }

pub loop-chunk-preserved : goal.loop-chunk-preserved
loop-chunk-preserved c =
    let n : ℕ = length c.args.digits.now in
    let xs : List ℤ = c.args.digits.now in
    let ys : List ℤ = c.args.numbers.now in
    let s : ℕ = c.args.stride in
    let count : ℕ = c.loop-chunk.chunk in
    let m : ℕ = c.min-end.result - 112 * count in
    let other : ℕ = c.min-end.result + 3 * s - 112 * count in
    let is_m : m ≡ min 112 (n - 112 * count) = omega (arith, c.min-end.ensures, c.div_ceil-chunk-end.ensures, c.loop-chunk-test.true) in
    let size : length (take m (drop (112 * count) xs)) ≡ m = omega (arith, length-take m (drop (112 * count) xs), length-drop (112 * count) xs, is_m) in
    let few : count < 2 ^ 31 = omega (arith, c.div_ceil-chunk-end.ensures, c.loop-chunk-test.true, c.requires.few) in
    let second_at : 1 * s ≡ s = omega arith in
    let sums = c.window_sums-sums.ensures in
    let first = total_more count n c.loop-chunk.first-bits _ m other 0 s 0 xs ys is_m size (omega arith) (omega (arith, is_m)) few (sums 0 (omega arith))
    c.loop-chunk.invariant.first c.loop-chunk.invariant.first_size in
    let second = total_more count n c.loop-chunk.second-bits _ m other 1 s s xs ys is_m size second_at (omega (arith, is_m)) few (sums 1 (omega arith))
    c.loop-chunk.invariant.second c.loop-chunk.invariant.second_size in
    let third = total_more count n c.loop-chunk.third-bits _ m other 2 s (2 * s) xs ys is_m size (omega arith) (omega (arith, is_m)) few (sums 2 (omega arith))
    c.loop-chunk.invariant.third c.loop-chunk.invariant.third_size in
    let fourth = total_more count n c.loop-chunk.fourth-bits _ m other 3 s (3 * s) xs ys is_m size (omega arith) (omega (arith, is_m)) few (sums 3 (omega arith))
    c.loop-chunk.invariant.fourth c.loop-chunk.invariant.fourth_size in
    record {
      first = first;
      second = second;
      third = third;
      fourth = fourth;
      first_size = total_size (count + 1) n _ (of_numbers xs) (of_numbers ys) 0 first;
      second_size = total_size (count + 1) n _ (of_numbers xs) (of_numbers ys) s second;
      third_size = total_size (count + 1) n _ (of_numbers xs) (of_numbers ys) (2 * s) third;
      fourth_size = total_size (count + 1) n _ (of_numbers xs) (of_numbers ys) (3 * s) fourth;
    }

pub returns-clause-exact : goal.returns-clause-exact
returns-clause-exact c = λ k p small.
    let n : ℕ = length c.args.digits.now in
    let a : ℕ → ℤ = of_numbers c.args.digits.now in
    let b : ℕ → ℤ = of_numbers c.args.numbers.now in
    let s : ℕ = c.args.stride in
    let all : n ≤ 112 * c.loop-chunk.chunk = omega (arith, c.loop-chunk-test.false, c.div_ceil-chunk-end.ensures) in
    let is : (place : ℕ) → chunked c.loop-chunk.chunk n a b place ≡ window_sum n a b place =
    λ place. chunked_exact c.loop-chunk.chunk n a b place all (λ i. size_16 (a i) (c.requires.fits.each i)) small in
    let first_at : 0 ≡ 0 * s = omega arith in
    let second_at : s ≡ 1 * s = omega arith in
    one_of_four (λ k z. z ≡ window_sum n a b (k * s)) _ _ _ _
    (c.loop-chunk.invariant.first ∙ is 0 ∙ ap (window_sum n a b) first_at)
    (c.loop-chunk.invariant.second ∙ is s ∙ ap (window_sum n a b) second_at)
    (c.loop-chunk.invariant.third ∙ is (2 * s)) (c.loop-chunk.invariant.fourth ∙ is (3 * s)) k p

pub returns-clause-wrapped : goal.returns-clause-wrapped
returns-clause-wrapped c = λ k p.
    let n : ℕ = length c.args.digits.now in
    let a : ℕ → ℤ = of_numbers c.args.digits.now in
    let b : ℕ → ℤ = of_numbers c.args.numbers.now in
    let s : ℕ = c.args.stride in
    let all : n ≤ 112 * c.loop-chunk.chunk = omega (arith, c.loop-chunk-test.false, c.div_ceil-chunk-end.ensures) in
    let is : (place : ℕ) → int_wrap w32 (chunked c.loop-chunk.chunk n a b place) ≡ int_wrap w32 (window_sum n a b place) =
    λ place. chunked_wraps c.loop-chunk.chunk n a b place all in
    let first_at : 0 ≡ 0 * s = omega arith in
    let second_at : s ≡ 1 * s = omega arith in
    one_of_four (λ k z. int_wrap w32 z ≡ int_wrap w32 (window_sum n a b (k * s))) _ _ _ _
    (ap (int_wrap w32) c.loop-chunk.invariant.first ∙ is 0 ∙ ap (λ x. int_wrap w32 (window_sum n a b x)) first_at)
    (ap (int_wrap w32) c.loop-chunk.invariant.second ∙ is s ∙ ap (λ x. int_wrap w32 (window_sum n a b x)) second_at)
    (ap (int_wrap w32) c.loop-chunk.invariant.third ∙ is (2 * s)) (ap (int_wrap w32) c.loop-chunk.invariant.fourth ∙ is (3 * s)) k p

pub returns-clause-fits_64 : goal.returns-clause-fits_64
returns-clause-fits_64 c = λ k p.
    let few : c.loop-chunk.chunk < 2 ^ 31 = omega (arith, c.div_ceil-chunk-end.ensures, c.loop-chunk.auto.chunk-end, c.requires.few) in
    one_of_four (λ k z. FitsSigned w64 z) _ _ _ _ (total_fits c.loop-chunk.chunk _ few c.loop-chunk.invariant.first_size)
    (total_fits c.loop-chunk.chunk _ few c.loop-chunk.invariant.second_size) (total_fits c.loop-chunk.chunk _ few c.loop-chunk.invariant.third_size)
    (total_fits c.loop-chunk.chunk _ few c.loop-chunk.invariant.fourth_size) k p
