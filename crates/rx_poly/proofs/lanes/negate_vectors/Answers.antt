use Rattle.std.proofs.Common.{ℕ, ℤ, neg_ℤ, ◌+◌, ◌-◌, ◌*◌, ◌%◌, ◌^◌, List, get_or, replicate, arith}
use lib.Lanes.{chunk, zip2}
use Rattle.rx_laws.specs.Words.{of_words}
use Rattle.rx_poly.proofs.Vectors.{lanes_read, lanes_splat, lanes_both, lanes_same, vector_written}
use Rattle.rx_poly.proofs.Words.{word-taken_from_none}
use Rattle.rx_poly.proofs.lanes.negate_vectors.Goals as goal

pub loop-vector-preserved : goal.loop-vector-preserved
loop-vector-preserved c =
    let i : ℕ = 4 * c.loop-vector.vector in
    let ys : List ℕ = c.args.words.now in
    let less : ℕ → ℕ → ℕ = λ x y. (x + (2 ^ 64 - y)) % 2 ^ 64 in
    let f : ℕ → ℤ = λ k. neg_ℤ (of_words ys k) in
    vector_written 4 i (4 * (c.loop-vector.vector + 1)) f c.args.out.now c.loop-vector.out (zip2 less (replicate 4 0) (chunk i 4 ys))
    (omega arith) (omega arith) c.loop-vector.invariant
    (lanes_same 4 _ _ _
    (lanes_both 4 less _ _ _ _ (lanes_splat 4 0) (lanes_read 4 i ys (omega arith)))
    (λ k p. word-taken_from_none (get_or ys (i + k) 0) (omega (arith, c.type_inv.words (i + k)))))
