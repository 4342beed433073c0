use Rattle.std.proofs.Common.{◌≡◌, ◌+ℤ◌, ◌-ℤ◌, ◌+◌, ◌-◌, ◌*◌, ◌/◌, length, take, drop, ℕ, ℤ, List, get_or, subst, sym, ◌∙◌, arith, length-take-le}
use Rattle.std.proofs.lemmas.List.{get_or-take, length-drop}
use Rattle.rx_laws.specs.Words.{AreWords, of_words}
use Rattle.rx_laws.proofs.Torus.{word_of_word}
use Rattle.rx_ring.specs.Linear.{linear, half_sum, high_half}
use Rattle.rx_ring.proofs.Parts.{part_read}
use Rattle.rx_poly.proofs.Spread.{linear_of_words}
use Rattle.rx_poly.proofs.Quarters.{added_by_halves}
use Rattle.rx_poly.proofs.karatsuba.product_by_halves.Goals as goal

pub returns-clause-added : goal.returns-clause-added
returns-clause-added c =
    let n : ℕ = length c.args.acc.now in
    let h : ℕ = n / 2 in
    let a : ℕ → ℤ = of_words c.args.a.now in
    let b : ℕ → ℤ = of_words c.args.b.now in
    let p : List ℕ = c.linear.new.out in
    let q : List ℕ = c.linear-2.new.out in
    let m : List ℕ = c.linear-3.new.out in
    let sums : List ℕ = c.write_sums.new.room in
    let size : length sums ≡ n = omega arith in
    let same : length c.args.a.now ≡ n = c.requires.same_a in
    let x0 : List ℕ = c.split_at_mut-front.result.0.now in
    let y0 : List ℕ = c.split_at_mut-front.result.1.now in
    let x1 : List ℕ = c.add_low.new.front in
    let y1 : List ℕ = c.add_low.new.back in
    let x2 : List ℕ = c.add_high.new.front in
    let y2 : List ℕ = c.add_high.new.back in
    let size0 : length x0 ≡ h = omega arith in
    let size1 : length x1 ≡ h = omega arith in
    let size2 : length x2 ≡ h = omega arith in
    let is_p : AreWords (2 * h) (linear h a b) p =
    linear_of_words _ _ h _ _ a b p (length-take-le h c.args.a.now (omega arith)) (omega arith)
    (λ i r. get_or-take h c.args.a.now i 0 r ∙ sym (word_of_word (get_or c.args.a.now i 0) (omega (arith, c.type_inv.a i))))
    (λ i r. get_or-take h c.args.b.now i 0 r ∙ sym (word_of_word (get_or c.args.b.now i 0) (omega (arith, c.type_inv.b i))))
    c.linear.ensures in
    let is_q : AreWords (2 * h) (linear h (high_half h a) (high_half h b)) q =
    linear_of_words _ _ h _ _ (high_half h a) (high_half h b) q
    (omega (arith, length-take-le (length c.args.a.now - h) (drop h c.args.a.now) (omega (arith, length-drop h c.args.a.now)))) (omega arith)
    (λ i r. part_read h (length c.args.a.now - h) i c.args.a.now (omega arith) ∙ sym (word_of_word (get_or c.args.a.now (h + i) 0) (omega (arith, c.type_inv.a (h + i)))))
    (λ i r. part_read h (length c.args.b.now - h) i c.args.b.now (omega arith) ∙ sym (word_of_word (get_or c.args.b.now (h + i) 0) (omega (arith, c.type_inv.b (h + i)))))
    c.linear-2.ensures in
    let first : AreWords h (half_sum h a) (take h sums) =
    subst (λ k. AreWords (k / 2) (half_sum (k / 2) a) (take (k / 2) sums)) same c.write_sums.ensures.first in
    let second : AreWords h (half_sum h b) (drop h sums) =
    subst (λ k. AreWords (k / 2) (half_sum (k / 2) b) (drop (k / 2) sums)) same c.write_sums.ensures.second in
    let is_m : AreWords (2 * h) (linear h (half_sum h a) (half_sum h b)) m =
    linear_of_words _ _ h _ _ (half_sum h a) (half_sum h b) m first.count (omega arith)
    (λ i r. first.each i r) (λ i r. get_or-take (length sums - h) (drop h sums) i 0 (omega arith) ∙ second.each i r)
    c.linear-3.ensures in
    added_by_halves n h a b c.args.acc.now p q m x0 y0 x1 y1 x2 y2 c.add_mixed.new.front c.add_mixed.new.back (omega arith)
    is_p is_q is_m size0 c.split_at_mut-front.ensures.value
    (subst (λ k. AreWords k (λ i. of_words x0 i +ℤ (of_words p i +ℤ of_words p (k + i))) x1) size0 c.add_low.ensures.front_added)
    (subst (λ k. AreWords k (λ i. of_words y0 i +ℤ (of_words p (k + i) -ℤ of_words p i)) y1) size0 c.add_low.ensures.back_added)
    (subst (λ k. AreWords k (λ i. of_words x1 i +ℤ (of_words q (k + i) -ℤ of_words q i)) x2) size1 c.add_high.ensures.front_added)
    (subst (λ k. AreWords k (λ i. of_words y1 i -ℤ (of_words q i +ℤ of_words q (k + i))) y2) size1 c.add_high.ensures.back_added)
    (subst (λ k. AreWords k (λ i. of_words x2 i -ℤ of_words m (k + i)) c.add_mixed.new.front) size2 c.add_mixed.ensures.front_added)
    (subst (λ k. AreWords k (λ i. of_words y2 i +ℤ of_words m i) c.add_mixed.new.back) size2 c.add_mixed.ensures.back_added)
