use Rattle.std.proofs.Common.{ℕ, ℤ, ◌-ℤ◌, ◌+◌, ◌-◌, ◌*◌, ◌%◌, ◌^◌, List, get_or, refl, ◌∙◌, ap, arith}
use lib.Lanes.{chunk, zip2}
use Rattle.rx_laws.specs.Words.{of_words}
use Rattle.rx_poly.proofs.Words.{word-wrapping_sub}
use Rattle.rx_poly.proofs.Vectors.{lanes_read, lanes_both, lanes_same, vector_written}
use Rattle.rx_poly.proofs.lanes.subtract_vectors.Goals as goal

pub loop-vector-preserved : goal.loop-vector-preserved
loop-vector-preserved c =
    let i : ℕ = 4 * c.loop-vector.vector in
    let xs : List ℕ = c.loop-vector.acc in
    let ys : List ℕ = c.args.other.now in
    let old : List ℕ = c.args.acc.now in
    let less : ℕ → ℕ → ℕ = λ x y. (x + (2 ^ 64 - y)) % 2 ^ 64 in
    let f : ℕ → ℤ = λ k. of_words old k -ℤ of_words ys k in
    vector_written 4 i (4 * (c.loop-vector.vector + 1)) f old xs (zip2 less (chunk i 4 xs) (chunk i 4 ys)) (omega arith) (omega arith)
    c.loop-vector.invariant
    (lanes_same 4 _ _ _
    (lanes_both 4 less _ _ _ _ (lanes_read 4 i xs (omega arith)) (lanes_read 4 i ys (omega arith)))
    (λ k p. ap (λ x. less x (get_or ys (i + k) 0)) (c.loop-vector.invariant.left (i + k) (omega arith))
    ∙ word-wrapping_sub (get_or old (i + k) 0) (get_or ys (i + k) 0) (of_words old (i + k)) (omega (arith, c.type_inv.other (i + k))) refl))
