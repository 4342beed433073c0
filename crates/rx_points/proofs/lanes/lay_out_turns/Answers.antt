use Rattle.std.proofs.Common.{ℕ, ℤ, pos, ◌-ℤ◌, ◌+◌, ◌-◌, ◌*◌, ◌%◌, ◌^◌, List, get_or, map, replicate, length, sym, arith, of_z, w16, FitsSigned}
use Rattle.std.proofs.lemmas.Int.{int_wrap_fits}
use Rattle.std.specs.Int.{int_wrap}
use lib.Lanes.{chunk, zip2}
use Rattle.rx_laws.specs.Words.{of_numbers}
use Rattle.rx_points.proofs.Vectors.{lanes_read, lanes_splat, lanes_both, lanes_same, vector_written, difference_bits}
use Rattle.rx_points.proofs.Turns.{holds_turns}
use Rattle.rx_points.proofs.lanes.lay_out_turns.Goals as goal

pub loop-vector-preserved : goal.loop-vector-preserved
loop-vector-preserved c =
    let i : ℕ = 8 * c.loop-vector.vector in
    let ys : List ℤ = c.args.block.now in
    let read : List ℕ = map (of_z w16) (chunk i 8 ys) in
    let less : ℕ → ℕ → ℕ = λ x y. (x + (2 ^ 16 - y)) % 2 ^ 16 in
    let fits : (k : ℕ) → FitsSigned w16 (get_or ys k (pos 0)) = c.requires.fits.each in
    record {
      negated = vector_written 8 i (8 * (c.loop-vector.vector + 1)) (λ k. pos 0 -ℤ of_numbers ys k) _ c.loop-vector.turned
          (zip2 less (replicate 8 0) read) (omega arith) (omega arith) c.loop-vector.invariant.negated
          (lanes_both w16 8 less (λ k. pos 0) _ (λ k. int_wrap w16 (pos 0 -ℤ get_or ys (i + k) (pos 0))) _ _ (lanes_splat w16 8 (pos 0)) (lanes_read w16 8 i ys (omega arith))
          (λ k p. difference_bits w16 (pos 0) (get_or ys (i + k) (pos 0)) (record { sfits = omega arith }) (fits (i + k)) (omega arith)));
      copied = vector_written 8 i (8 * (c.loop-vector.vector + 1)) (λ k. of_numbers ys k) _ c.loop-vector.same
          read (omega arith) (omega arith) c.loop-vector.invariant.copied
          (lanes_same w16 8 _ _ _ (lanes_read w16 8 i ys (omega arith)) (λ k p. sym (int_wrap_fits w16 (get_or ys (i + k) (pos 0)) (fits (i + k)))));
    }

pub returns-clause-turns : goal.returns-clause-turns
returns-clause-turns c =
    holds_turns (length c.args.block.now) (8 * c.loop-vector.vector) (of_numbers c.args.block.now) _ c.loop-vector.turned _ c.loop-vector.same
    (omega arith) (omega arith) c.loop-vector.invariant.negated c.loop-vector.invariant.copied
