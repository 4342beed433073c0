use Rattle.std.proofs.Common.{◌≡◌, ℕ, pos, ◌+ℤ◌, ◌-ℤ◌, ◌+◌, ◌-◌, ◌*◌, ◌<◌, ◌%◌, ◌^◌, List, length, get_or, ap, refl, sym, ◌∙◌, arith}
use lib.Lanes.{chunk, zip2}
use Rattle.rx_laws.specs.Words.{of_words}
use Rattle.rx_laws.proofs.Torus.{word_of}
use Rattle.rx_poly.proofs.Words.{word-wrapping_sub}
use Rattle.rx_poly.proofs.Vectors.{AreLanes, lanes_read, lanes_both, lanes_same, vector_written}
use Rattle.rx_poly.proofs.karatsuba.add_mixed.Goals as goal

pub loop-vector-preserved : goal.loop-vector-preserved
loop-vector-preserved c =
    let i : ℕ = 4 * c.loop-vector.vector in
    let h : ℕ = length c.args.front.now in
    let add : ℕ → ℕ → ℕ = λ x y. (x + y) % 2 ^ 64 in
    let less : ℕ → ℕ → ℕ = λ x y. (x + (2 ^ 64 - y)) % 2 ^ 64 in
    let ps : List ℕ = c.args.product.now in
    let old_x : List ℕ = c.args.front.now in
    let old_y : List ℕ = c.args.back.now in
    let xs : List ℕ = c.loop-vector.front in
    let ys : List ℕ = c.loop-vector.back in
    let x : AreLanes 4 (λ k. get_or xs (i + k) 0) (chunk i 4 xs) = lanes_read 4 i xs (omega arith) in
    let y : AreLanes 4 (λ k. get_or ys (i + k) 0) (chunk i 4 ys) = lanes_read 4 i ys (omega arith) in
    let l : AreLanes 4 (λ k. get_or ps (i + k) 0) (chunk i 4 ps) = lanes_read 4 i ps (omega arith) in
    let u : AreLanes 4 (λ k. get_or ps (h + i + k) 0) (chunk (h + i) 4 ps) = lanes_read 4 (h + i) ps (omega arith) in
    let fits_low : (k : ℕ) → get_or ps (i + k) 0 < 2 ^ 64 = λ k. omega (arith, c.type_inv.product (i + k)) in
    let fits_high : (k : ℕ) → get_or ps (h + (i + k)) 0 < 2 ^ 64 = λ k. omega (arith, c.type_inv.product (h + (i + k))) in
    let place : (k : ℕ) → h + i + k ≡ h + (i + k) = λ k. omega arith in
    let in_front : ℕ → ℕ → ℕ → ℕ = λ z p q. less z q in
    let in_back : ℕ → ℕ → ℕ → ℕ = λ z p q. add z p in
    record {
      front = vector_written 4 i (4 * (c.loop-vector.vector + 1)) (λ k. of_words old_x k -ℤ of_words ps (h + k)) old_x xs
          (zip2 less (chunk i 4 xs) (chunk (h + i) 4 ps)) (omega arith) (omega arith) c.loop-vector.invariant.front
          (lanes_same 4 _ _ _ (lanes_both 4 less _ _ _ _ x u) (λ k r.
          ap (λ z. in_front z (get_or ps (i + k) 0) (get_or ps (h + i + k) 0)) (c.loop-vector.invariant.front.left (i + k) (omega arith))
          ∙ ap (λ z. in_front (get_or old_x (i + k) 0) (get_or ps (i + k) 0) (get_or ps z 0)) (place k)
          ∙ word-wrapping_sub (get_or old_x (i + k) 0) (get_or ps (h + (i + k)) 0) (pos (get_or old_x (i + k) 0)) (fits_high k) refl));
      back = vector_written 4 i (4 * (c.loop-vector.vector + 1)) (λ k. of_words old_y k +ℤ of_words ps k) old_y ys
          (zip2 add (chunk i 4 ys) (chunk i 4 ps)) (omega arith) (omega arith) c.loop-vector.invariant.back
          (lanes_same 4 _ _ _ (lanes_both 4 add _ _ _ _ y l) (λ k r.
          ap (λ z. in_back z (get_or ps (i + k) 0) (get_or ps (h + i + k) 0)) (c.loop-vector.invariant.back.left (i + k) (omega arith))
          ∙ ap (λ z. in_back (get_or old_y (i + k) 0) (get_or ps (i + k) 0) (get_or ps z 0)) (place k)
          ∙ sym (word_of ((get_or old_y (i + k) 0) + (get_or ps (i + k) 0)))));
    }
