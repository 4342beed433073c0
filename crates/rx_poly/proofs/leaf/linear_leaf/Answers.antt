use Rattle.std.proofs.Common.{◌≡◌, ℕ, ℤ, pos, ◌+ℤ◌, ◌+◌, ◌-◌, ◌<◌, ◌%◌, ◌^◌, suc, List, length, get_or, refl, sym, ◌∙◌, ap, arith}
use Rattle.rx_laws.specs.Torus.{word}
use Rattle.rx_laws.specs.Words.{of_words}
use Rattle.rx_ring.specs.Linear.{linear, high_half, half_sum}
use Rattle.rx_ring.proofs.Linear.{quarter_0, quarter_1, quarter_2, quarter_3}
use Rattle.rx_poly.proofs.Halves.{two_parts}
use Rattle.rx_poly.proofs.Vectors.{Writing, none_written, writing_more}
use Rattle.rx_poly.proofs.Places.{wrapped, short_below, short_from, short_last, middle_place, last_middle, first_alone, sum_word, word_none}
use Rattle.rx_poly.proofs.leaf.linear_leaf.Goals as goal

pub returns : goal.returns
unfolding wrapped
returns c =
    let xs : List ℕ = c.args.a.now in
    let ys : List ℕ = c.args.b.now in
    let a : ℕ → ℤ = of_words xs in
    let b : ℕ → ℤ = of_words ys in
    let low_old : List ℕ = c.split_at_mut-low.result.0.now in
    let high_old : List ℕ = c.split_at_mut-low.result.1.now in
    let g : ℕ → ℤ = λ i. linear 8 a b (8 + i) in
    let f : ℕ → ℤ = linear 8 a b in
    let low_x : ℕ → ℕ = λ j. get_or xs j 0 in
    let low_y : ℕ → ℕ = λ j. get_or ys j 0 in
    let high_x : ℕ → ℕ = λ j. get_or xs (4 + j) 0 in
    let high_y : ℕ → ℕ = λ j. get_or ys (4 + j) 0 in
    let both_x : ℕ → ℕ = λ j. (get_or xs j 0 + get_or xs (4 + j) 0) % 2 ^ 64 in
    let both_y : ℕ → ℕ = λ j. (get_or ys j 0 + get_or ys (4 + j) 0) % 2 ^ 64 in
    let p : ℕ → ℤ = linear 4 a b in
    let q : ℕ → ℤ = linear 4 (high_half 4 a) (high_half 4 b) in
    let m : ℕ → ℤ = linear 4 (half_sum 4 a) (half_sum 4 b) in
    let both_a : (j : ℕ) → j < 4 → word (pos (both_x j)) ≡ word (half_sum 4 a j) = λ j _. sum_word (get_or xs j 0) (get_or xs (4 + j) 0) in
    let both_b : (j : ℕ) → j < 4 → word (pos (both_y j)) ≡ word (half_sum 4 b j) = λ j _. sum_word (get_or ys j 0) (get_or ys (4 + j) 0) in
    let p0 : (wrapped 1 low_x (λ j. low_y (0 - j))) ≡ word (p 0) = short_below 0 3 low_x low_y a b refl (λ _ _. refl) (λ _ _. refl) in
    let p1 : (wrapped 2 low_x (λ j. low_y (1 - j))) ≡ word (p 1) = short_below 1 2 low_x low_y a b refl (λ _ _. refl) (λ _ _. refl) in
    let p2 : (wrapped 3 low_x (λ j. low_y (2 - j))) ≡ word (p 2) = short_below 2 1 low_x low_y a b refl (λ _ _. refl) (λ _ _. refl) in
    let p3 : (wrapped 4 low_x (λ j. low_y (3 - j))) ≡ word (p 3) = short_below 3 0 low_x low_y a b refl (λ _ _. refl) (λ _ _. refl) in
    let p4 : (wrapped 3 (λ j. low_x (suc 0 + j)) (λ j. low_y (4 - suc j))) ≡ word (p 4) = short_from 0 3 low_x low_y a b refl (λ _ _. refl) (λ _ _. refl) in
    let p5 : (wrapped 2 (λ j. low_x (suc 1 + j)) (λ j. low_y (4 - suc j))) ≡ word (p 5) = short_from 1 2 low_x low_y a b refl (λ _ _. refl) (λ _ _. refl) in
    let p6 : (wrapped 1 (λ j. low_x (suc 2 + j)) (λ j. low_y (4 - suc j))) ≡ word (p 6) = short_from 2 1 low_x low_y a b refl (λ _ _. refl) (λ _ _. refl) in
    let q0 : (wrapped 1 high_x (λ j. high_y (0 - j))) ≡ word (q 0) = short_below 0 3 high_x high_y (high_half 4 a) (high_half 4 b) refl (λ _ _. refl) (λ _ _. refl) in
    let q1 : (wrapped 2 high_x (λ j. high_y (1 - j))) ≡ word (q 1) = short_below 1 2 high_x high_y (high_half 4 a) (high_half 4 b) refl (λ _ _. refl) (λ _ _. refl) in
    let q2 : (wrapped 3 high_x (λ j. high_y (2 - j))) ≡ word (q 2) = short_below 2 1 high_x high_y (high_half 4 a) (high_half 4 b) refl (λ _ _. refl) (λ _ _. refl) in
    let q3 : (wrapped 4 high_x (λ j. high_y (3 - j))) ≡ word (q 3) = short_below 3 0 high_x high_y (high_half 4 a) (high_half 4 b) refl (λ _ _. refl) (λ _ _. refl) in
    let q4 : (wrapped 3 (λ j. high_x (suc 0 + j)) (λ j. high_y (4 - suc j))) ≡ word (q 4) = short_from 0 3 high_x high_y (high_half 4 a) (high_half 4 b) refl (λ _ _. refl) (λ _ _. refl) in
    let q5 : (wrapped 2 (λ j. high_x (suc 1 + j)) (λ j. high_y (4 - suc j))) ≡ word (q 5) = short_from 1 2 high_x high_y (high_half 4 a) (high_half 4 b) refl (λ _ _. refl) (λ _ _. refl) in
    let q6 : (wrapped 1 (λ j. high_x (suc 2 + j)) (λ j. high_y (4 - suc j))) ≡ word (q 6) = short_from 2 1 high_x high_y (high_half 4 a) (high_half 4 b) refl (λ _ _. refl) (λ _ _. refl) in
    let m0 : (wrapped 1 both_x (λ j. both_y (0 - j))) ≡ word (m 0) = short_below 0 3 both_x both_y (half_sum 4 a) (half_sum 4 b) refl both_a both_b in
    let m1 : (wrapped 2 both_x (λ j. both_y (1 - j))) ≡ word (m 1) = short_below 1 2 both_x both_y (half_sum 4 a) (half_sum 4 b) refl both_a both_b in
    let m2 : (wrapped 3 both_x (λ j. both_y (2 - j))) ≡ word (m 2) = short_below 2 1 both_x both_y (half_sum 4 a) (half_sum 4 b) refl both_a both_b in
    let m3 : (wrapped 4 both_x (λ j. both_y (3 - j))) ≡ word (m 3) = short_below 3 0 both_x both_y (half_sum 4 a) (half_sum 4 b) refl both_a both_b in
    let m4 : (wrapped 3 (λ j. both_x (suc 0 + j)) (λ j. both_y (4 - suc j))) ≡ word (m 4) = short_from 0 3 both_x both_y (half_sum 4 a) (half_sum 4 b) refl both_a both_b in
    let m5 : (wrapped 2 (λ j. both_x (suc 1 + j)) (λ j. both_y (4 - suc j))) ≡ word (m 5) = short_from 1 2 both_x both_y (half_sum 4 a) (half_sum 4 b) refl both_a both_b in
    let m6 : (wrapped 1 (λ j. both_x (suc 2 + j)) (λ j. both_y (4 - suc j))) ≡ word (m 6) = short_from 2 1 both_x both_y (half_sum 4 a) (half_sum 4 b) refl both_a both_b in
    let none_p : p 7 ≡ pos 0 = short_last a b in
    let none_q : q 7 ≡ pos 0 = short_last (high_half 4 a) (high_half 4 b) in
    let none_m : m 7 ≡ pos 0 = short_last (half_sum 4 a) (half_sum 4 b) in
    let w0 : Writing 8 0 f low_old low_old = record { count = omega arith; so_far = none_written f low_old } in
    let v0 : Writing 8 0 g high_old high_old = record { count = omega arith; so_far = none_written g high_old } in
    let w1 = writing_more 8 0 (wrapped 1 low_x (λ j. low_y (0 - j))) f low_old _ (omega arith) w0
    (p0 ∙ ap word (sym (quarter_0 4 a b 0 (omega arith)))) in
    let w2 = writing_more 8 1 (wrapped 2 low_x (λ j. low_y (1 - j))) f low_old _ (omega arith) w1
    (p1 ∙ ap word (sym (quarter_0 4 a b 1 (omega arith)))) in
    let w3 = writing_more 8 2 (wrapped 3 low_x (λ j. low_y (2 - j))) f low_old _ (omega arith) w2
    (p2 ∙ ap word (sym (quarter_0 4 a b 2 (omega arith)))) in
    let w4 = writing_more 8 3 (wrapped 4 low_x (λ j. low_y (3 - j))) f low_old _ (omega arith) w3
    (p3 ∙ ap word (sym (quarter_0 4 a b 3 (omega arith)))) in
    let w5 = writing_more 8 4 (((wrapped 3 (λ j. low_x (suc 0 + j)) (λ j. low_y (4 - suc j))) + (((((wrapped 1 both_x (λ j. both_y (0 - j))) + (2 ^ 64 - (wrapped 1 low_x (λ j. low_y (0 - j))))) % 2 ^ 64) + (2 ^ 64 - (wrapped 1 high_x (λ j. high_y (0 - j))))) % 2 ^ 64)) % 2 ^ 64) f low_old _ (omega arith) w4
    (middle_place (wrapped 3 (λ j. low_x (suc 0 + j)) (λ j. low_y (4 - suc j))) (wrapped 1 both_x (λ j. both_y (0 - j))) (wrapped 1 low_x (λ j. low_y (0 - j))) (wrapped 1 high_x (λ j. high_y (0 - j))) (p 4) (m 0) (p 0) (q 0) p4 m0 p0 q0 ∙ ap word (sym (quarter_1 4 a b 0 (omega arith)))) in
    let w6 = writing_more 8 5 (((wrapped 2 (λ j. low_x (suc 1 + j)) (λ j. low_y (4 - suc j))) + (((((wrapped 2 both_x (λ j. both_y (1 - j))) + (2 ^ 64 - (wrapped 2 low_x (λ j. low_y (1 - j))))) % 2 ^ 64) + (2 ^ 64 - (wrapped 2 high_x (λ j. high_y (1 - j))))) % 2 ^ 64)) % 2 ^ 64) f low_old _ (omega arith) w5
    (middle_place (wrapped 2 (λ j. low_x (suc 1 + j)) (λ j. low_y (4 - suc j))) (wrapped 2 both_x (λ j. both_y (1 - j))) (wrapped 2 low_x (λ j. low_y (1 - j))) (wrapped 2 high_x (λ j. high_y (1 - j))) (p 5) (m 1) (p 1) (q 1) p5 m1 p1 q1 ∙ ap word (sym (quarter_1 4 a b 1 (omega arith)))) in
    let w7 = writing_more 8 6 (((wrapped 1 (λ j. low_x (suc 2 + j)) (λ j. low_y (4 - suc j))) + (((((wrapped 3 both_x (λ j. both_y (2 - j))) + (2 ^ 64 - (wrapped 3 low_x (λ j. low_y (2 - j))))) % 2 ^ 64) + (2 ^ 64 - (wrapped 3 high_x (λ j. high_y (2 - j))))) % 2 ^ 64)) % 2 ^ 64) f low_old _ (omega arith) w6
    (middle_place (wrapped 1 (λ j. low_x (suc 2 + j)) (λ j. low_y (4 - suc j))) (wrapped 3 both_x (λ j. both_y (2 - j))) (wrapped 3 low_x (λ j. low_y (2 - j))) (wrapped 3 high_x (λ j. high_y (2 - j))) (p 6) (m 2) (p 2) (q 2) p6 m2 p2 q2 ∙ ap word (sym (quarter_1 4 a b 2 (omega arith)))) in
    let w8 = writing_more 8 7 (((((wrapped 4 both_x (λ j. both_y (3 - j))) + (2 ^ 64 - (wrapped 4 low_x (λ j. low_y (3 - j))))) % 2 ^ 64) + (2 ^ 64 - (wrapped 4 high_x (λ j. high_y (3 - j))))) % 2 ^ 64) f low_old _ (omega arith) w7
    (last_middle (wrapped 4 both_x (λ j. both_y (3 - j))) (wrapped 4 low_x (λ j. low_y (3 - j))) (wrapped 4 high_x (λ j. high_y (3 - j))) (p 7) (m 3) (p 3) (q 3) none_p m3 p3 q3 ∙ ap word (sym (quarter_1 4 a b 3 (omega arith)))) in
    let v1 = writing_more 8 0 (((wrapped 1 high_x (λ j. high_y (0 - j))) + (((((wrapped 3 (λ j. both_x (suc 0 + j)) (λ j. both_y (4 - suc j))) + (2 ^ 64 - (wrapped 3 (λ j. low_x (suc 0 + j)) (λ j. low_y (4 - suc j))))) % 2 ^ 64) + (2 ^ 64 - (wrapped 3 (λ j. high_x (suc 0 + j)) (λ j. high_y (4 - suc j))))) % 2 ^ 64)) % 2 ^ 64) g high_old _ (omega arith) v0
    (middle_place (wrapped 1 high_x (λ j. high_y (0 - j))) (wrapped 3 (λ j. both_x (suc 0 + j)) (λ j. both_y (4 - suc j))) (wrapped 3 (λ j. low_x (suc 0 + j)) (λ j. low_y (4 - suc j))) (wrapped 3 (λ j. high_x (suc 0 + j)) (λ j. high_y (4 - suc j))) (q 0) (m 4) (p 4) (q 4) q0 m4 p4 q4 ∙ ap word (sym (quarter_2 4 a b 0 (omega arith)))) in
    let v2 = writing_more 8 1 (((wrapped 2 high_x (λ j. high_y (1 - j))) + (((((wrapped 2 (λ j. both_x (suc 1 + j)) (λ j. both_y (4 - suc j))) + (2 ^ 64 - (wrapped 2 (λ j. low_x (suc 1 + j)) (λ j. low_y (4 - suc j))))) % 2 ^ 64) + (2 ^ 64 - (wrapped 2 (λ j. high_x (suc 1 + j)) (λ j. high_y (4 - suc j))))) % 2 ^ 64)) % 2 ^ 64) g high_old _ (omega arith) v1
    (middle_place (wrapped 2 high_x (λ j. high_y (1 - j))) (wrapped 2 (λ j. both_x (suc 1 + j)) (λ j. both_y (4 - suc j))) (wrapped 2 (λ j. low_x (suc 1 + j)) (λ j. low_y (4 - suc j))) (wrapped 2 (λ j. high_x (suc 1 + j)) (λ j. high_y (4 - suc j))) (q 1) (m 5) (p 5) (q 5) q1 m5 p5 q5 ∙ ap word (sym (quarter_2 4 a b 1 (omega arith)))) in
    let v3 = writing_more 8 2 (((wrapped 3 high_x (λ j. high_y (2 - j))) + (((((wrapped 1 (λ j. both_x (suc 2 + j)) (λ j. both_y (4 - suc j))) + (2 ^ 64 - (wrapped 1 (λ j. low_x (suc 2 + j)) (λ j. low_y (4 - suc j))))) % 2 ^ 64) + (2 ^ 64 - (wrapped 1 (λ j. high_x (suc 2 + j)) (λ j. high_y (4 - suc j))))) % 2 ^ 64)) % 2 ^ 64) g high_old _ (omega arith) v2
    (middle_place (wrapped 3 high_x (λ j. high_y (2 - j))) (wrapped 1 (λ j. both_x (suc 2 + j)) (λ j. both_y (4 - suc j))) (wrapped 1 (λ j. low_x (suc 2 + j)) (λ j. low_y (4 - suc j))) (wrapped 1 (λ j. high_x (suc 2 + j)) (λ j. high_y (4 - suc j))) (q 2) (m 6) (p 6) (q 6) q2 m6 p6 q6 ∙ ap word (sym (quarter_2 4 a b 2 (omega arith)))) in
    let v4 = writing_more 8 3 (wrapped 4 high_x (λ j. high_y (3 - j))) g high_old _ (omega arith) v3
    (first_alone (wrapped 4 high_x (λ j. high_y (3 - j))) (q 3) (m 7) (p 7) (q 7) q3 none_m none_p none_q ∙ ap word (sym (quarter_2 4 a b 3 (omega arith)))) in
    let v5 = writing_more 8 4 (wrapped 3 (λ j. high_x (suc 0 + j)) (λ j. high_y (4 - suc j))) g high_old _ (omega arith) v4
    (q4 ∙ ap word (sym (quarter_3 4 a b 0 (omega arith)))) in
    let v6 = writing_more 8 5 (wrapped 2 (λ j. high_x (suc 1 + j)) (λ j. high_y (4 - suc j))) g high_old _ (omega arith) v5
    (q5 ∙ ap word (sym (quarter_3 4 a b 1 (omega arith)))) in
    let v7 = writing_more 8 6 (wrapped 1 (λ j. high_x (suc 2 + j)) (λ j. high_y (4 - suc j))) g high_old _ (omega arith) v6
    (q6 ∙ ap word (sym (quarter_3 4 a b 2 (omega arith)))) in
    let v8 = writing_more 8 7 0 g high_old _ (omega arith) v7
    (word_none ∙ ap word (sym none_q ∙ sym (quarter_3 4 a b 3 (omega arith)))) in
    two_parts 16 8 f _ _ (omega arith) w8.count v8.count (λ j r. w8.so_far.written j r) (λ j r. v8.so_far.written j r)
