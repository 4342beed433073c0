use Rattle.std.proofs.Common.{◌≡◌, ℕ, ℤ, ◌+ℤ◌, ◌-ℤ◌, ◌+◌, ◌-◌, ◌*◌, ◌%◌, ◌^◌, List, length, get_or, ap, ◌∙◌, arith}
use lib.Lanes.{chunk, zip2}
use Rattle.rx_laws.specs.Words.{of_words}
use Rattle.rx_poly.proofs.Words.{word_joined}
use Rattle.rx_poly.proofs.Vectors.{AreLanes, lanes_read, lanes_both, lanes_same, vector_written}
use Rattle.rx_poly.proofs.plain.join_quarters.Goals as goal

pub loop-vector-preserved : goal.loop-vector-preserved
loop-vector-preserved c =
    let i : ℕ = 4 * c.loop-vector.vector in
    let h : ℕ = length c.args.low_1.now in
    let add : ℕ → ℕ → ℕ = λ x y. (x + y) % 2 ^ 64 in
    let less : ℕ → ℕ → ℕ = λ x y. (x + (2 ^ 64 - y)) % 2 ^ 64 in
    let ms : List ℕ = c.args.mixed.now in
    let ps : List ℕ = c.args.low_0.now in
    let qs : List ℕ = c.args.high_1.now in
    let old_s : List ℕ = c.args.low_1.now in
    let old_t : List ℕ = c.args.high_0.now in
    let xs : List ℕ = c.loop-vector.low_1 in
    let ys : List ℕ = c.loop-vector.high_0 in
    let s : AreLanes 4 (λ k. get_or xs (i + k) 0) (chunk i 4 xs) = lanes_read 4 i xs (omega arith) in
    let t : AreLanes 4 (λ k. get_or ys (i + k) 0) (chunk i 4 ys) = lanes_read 4 i ys (omega arith) in
    let m : AreLanes 4 (λ k. get_or ms (i + k) 0) (chunk i 4 ms) = lanes_read 4 i ms (omega arith) in
    let n : AreLanes 4 (λ k. get_or ms (h + i + k) 0) (chunk (h + i) 4 ms) = lanes_read 4 (h + i) ms (omega arith) in
    let p : AreLanes 4 (λ k. get_or ps (i + k) 0) (chunk i 4 ps) = lanes_read 4 i ps (omega arith) in
    let q : AreLanes 4 (λ k. get_or qs (i + k) 0) (chunk i 4 qs) = lanes_read 4 i qs (omega arith) in
    let f : ℕ → ℤ = λ k. of_words old_s k +ℤ ((of_words ms k -ℤ of_words ps k) -ℤ of_words old_t k) in
    let g : ℕ → ℤ = λ k. of_words old_t k +ℤ ((of_words ms (h + k) -ℤ of_words old_s k) -ℤ of_words qs k) in
    let is_s : (k : ℕ) → get_or xs (i + k) 0 ≡ get_or old_s (i + k) 0 =
    λ k. c.loop-vector.invariant.second.left (i + k) (omega arith) in
    let is_t : (k : ℕ) → get_or ys (i + k) 0 ≡ get_or old_t (i + k) 0 =
    λ k. c.loop-vector.invariant.third.left (i + k) (omega arith) in
    record {
      second = vector_written 4 i (4 * (c.loop-vector.vector + 1)) f old_s xs
          (zip2 add (chunk i 4 xs) (zip2 less (zip2 less (chunk i 4 ms) (chunk i 4 ps)) (chunk i 4 ys)))
          (omega arith) (omega arith) c.loop-vector.invariant.second
          (lanes_same 4 _ _ _ (lanes_both 4 add _ _ _ _ s (lanes_both 4 less _ _ _ _ (lanes_both 4 less _ _ _ _ m p) t))
          (λ k r.
          ap (λ x. add x (less (less (get_or ms (i + k) 0) (get_or ps (i + k) 0)) (get_or ys (i + k) 0))) (is_s k)
          ∙ ap (λ x. add (get_or old_s (i + k) 0) (less (less (get_or ms (i + k) 0) (get_or ps (i + k) 0)) x)) (is_t k)
          ∙ word_joined (get_or old_s (i + k) 0) (get_or ms (i + k) 0) (get_or ps (i + k) 0) (get_or old_t (i + k) 0)
          (omega (arith, c.type_inv.low_0 (i + k))) (c.loop-vector.invariant.third_fits (i + k))));
      third = vector_written 4 i (4 * (c.loop-vector.vector + 1)) g old_t ys
          (zip2 add (chunk i 4 ys) (zip2 less (zip2 less (chunk (h + i) 4 ms) (chunk i 4 xs)) (chunk i 4 qs)))
          (omega arith) (omega arith) c.loop-vector.invariant.third
          (lanes_same 4 _ _ _ (lanes_both 4 add _ _ _ _ t (lanes_both 4 less _ _ _ _ (lanes_both 4 less _ _ _ _ n s) q))
          (λ k r.
          let place : h + i + k ≡ h + (i + k) = omega arith in
          ap (λ x. add x (less (less (get_or ms (h + i + k) 0) (get_or xs (i + k) 0)) (get_or qs (i + k) 0))) (is_t k)
          ∙ ap (λ x. add (get_or old_t (i + k) 0) (less (less (get_or ms (h + i + k) 0) x) (get_or qs (i + k) 0))) (is_s k)
          ∙ ap (λ x. add (get_or old_t (i + k) 0) (less (less (get_or ms x 0) (get_or old_s (i + k) 0)) (get_or qs (i + k) 0))) place
          ∙ word_joined (get_or old_t (i + k) 0) (get_or ms (h + (i + k)) 0) (get_or old_s (i + k) 0) (get_or qs (i + k) 0)
          (c.loop-vector.invariant.second_fits (i + k)) (omega (arith, c.type_inv.high_1 (i + k)))));
      second_fits = c.loop-vector.invariant.second_fits;
      third_fits = c.loop-vector.invariant.third_fits;
    }
