use Rattle.std.proofs.Common.{ℕ, ℤ, pos, ◌+ℤ◌, ◌-ℤ◌, ◌+◌, ◌-◌, ◌*◌, ◌%◌, ◌^◌, List, get_or, map, ◌∙◌, ap, arith, of_z, w16, FitsSigned, ◌≡◌}
use Rattle.std.specs.Int.{int_wrap}
use lib.Lanes.{chunk, zip2}
use Rattle.rx_laws.specs.Words.{of_numbers}
use Rattle.rx_points.proofs.Vectors.{lanes_read, lanes_both, vector_written, sum_bits, difference_bits}
use Rattle.rx_points.proofs.lanes.add_and_subtract.Goals as goal

pub loop-vector-preserved : goal.loop-vector-preserved
loop-vector-preserved c =
    let i : ℕ = 8 * c.loop-vector.vector in
    let xs : List ℤ = c.loop-vector.near in
    let ys : List ℤ = c.args.turned.now in
    let old : List ℤ = c.args.near.now in
    let same : (k : ℕ) → get_or xs (i + k) (pos 0) ≡ get_or old (i + k) (pos 0) =
    λ k. c.loop-vector.invariant.sums.left (i + k) (omega arith) in
    let bits_of : List ℤ → List ℕ = λ zs. map (of_z w16) (chunk i 8 zs) in
    let add : ℕ → ℕ → ℕ = λ x y. (x + y) % 2 ^ 16 in
    let less : ℕ → ℕ → ℕ = λ x y. (x + (2 ^ 16 - y)) % 2 ^ 16 in
    let fits : (k : ℕ) → FitsSigned w16 (get_or old k (pos 0)) = c.requires.fits.each in
    let fits_turned : (k : ℕ) → FitsSigned w16 (get_or ys k (pos 0)) = c.requires.fits_turned.each in
    record {
      sums = vector_written 8 i (8 * (c.loop-vector.vector + 1)) (λ k. of_numbers old k +ℤ of_numbers ys k) old xs
          (zip2 add (bits_of xs) (bits_of ys)) (omega arith) (omega arith) c.loop-vector.invariant.sums
          (lanes_both w16 8 add _ _ (λ k. int_wrap w16 (get_or old (i + k) (pos 0) +ℤ get_or ys (i + k) (pos 0))) _ _ (lanes_read w16 8 i xs (omega arith)) (lanes_read w16 8 i ys (omega arith))
          (λ k p. ap (λ x. add (of_z w16 x) (of_z w16 (get_or ys (i + k) (pos 0)))) (same k)
          ∙ sum_bits w16 (get_or old (i + k) (pos 0)) (get_or ys (i + k) (pos 0)) (fits (i + k)) (fits_turned (i + k)) (omega arith)));
      differences = vector_written 8 i (8 * (c.loop-vector.vector + 1)) (λ k. of_numbers old k -ℤ of_numbers ys k) c.args.away.now c.loop-vector.away
          (zip2 less (bits_of xs) (bits_of ys)) (omega arith) (omega arith) c.loop-vector.invariant.differences
          (lanes_both w16 8 less _ _ (λ k. int_wrap w16 (get_or old (i + k) (pos 0) -ℤ get_or ys (i + k) (pos 0))) _ _ (lanes_read w16 8 i xs (omega arith)) (lanes_read w16 8 i ys (omega arith))
          (λ k p. ap (λ x. less (of_z w16 x) (of_z w16 (get_or ys (i + k) (pos 0)))) (same k)
          ∙ difference_bits w16 (get_or old (i + k) (pos 0)) (get_or ys (i + k) (pos 0)) (fits (i + k)) (fits_turned (i + k)) (omega arith)));
    }
