use Rattle.std.proofs.Common.{◌≡◌, ◌+ℤ◌, ◌-ℤ◌, ◌+◌, ◌-◌, ◌*◌, ◌/◌, length, take, drop, ℕ, ℤ, List, get_or, subst, sym, ◌++◌, ◌∙◌, arith, length-take-le}
use Rattle.std.proofs.lemmas.List.{get_or-take, length-drop}
use Rattle.rx_laws.specs.Words.{AreWords, of_words}
use Rattle.rx_laws.proofs.Torus.{word_of_word}
use Rattle.rx_ring.specs.Linear.{linear, half_sum, high_half}
use Rattle.rx_ring.proofs.Parts.{part_read}
use Rattle.rx_poly.proofs.Spread.{linear_of_words, joined}
use Rattle.rx_poly.proofs.plain.+linear.Goals as goal

pub returns-then-n-eq0 : goal.returns-then-n-eq0
returns-then-n-eq0 t c =
    let n : ℕ = length c.args.a.now in
    let h : ℕ = n / 2 in
    let a : ℕ → ℤ = of_words c.args.a.now in
    let b : ℕ → ℤ = of_words c.args.b.now in
    let m : List ℕ = c.linear.new.out in
    let p : List ℕ = c.linear-then-n-eq0.new.out in
    let q : List ℕ = c.linear-then-n-eq0-2.new.out in
    let sums : List ℕ = c.write_sums.new.room in
    let size : length m ≡ n = omega arith in
    let even : n ≡ 2 * h = omega arith in
    let is_m : AreWords (2 * h) (linear h (half_sum h a) (half_sum h b)) m =
    linear_of_words _ _ h _ _ (half_sum h a) (half_sum h b) m (length-take-le h sums (omega arith)) (omega arith)
    (λ i r. c.write_sums.ensures.first.each i r) (λ i r. get_or-take (length sums - h) (drop h sums) i 0 (omega arith) ∙ c.write_sums.ensures.second.each i r) c.linear.ensures in
    let is_p : AreWords (2 * h) (linear h a b) p =
    linear_of_words _ _ h _ _ a b p (length-take-le h c.args.a.now (omega arith)) (omega arith)
    (λ i r. get_or-take h c.args.a.now i 0 r ∙ sym (word_of_word (get_or c.args.a.now i 0) (omega (arith, c.type_inv.a i))))
    (λ i r. get_or-take h c.args.b.now i 0 r ∙ sym (word_of_word (get_or c.args.b.now i 0) (omega (arith, c.type_inv.b i))))
    c.linear-then-n-eq0.ensures in
    let is_q : AreWords (2 * h) (linear h (high_half h a) (high_half h b)) q =
    linear_of_words _ _ h _ _ (high_half h a) (high_half h b) q
    (omega (arith, length-take-le (n - h) (drop h c.args.a.now) (omega (arith, length-drop h c.args.a.now)))) (omega arith)
    (λ i r. part_read h (n - h) i c.args.a.now (omega arith) ∙ sym (word_of_word (get_or c.args.a.now (h + i) 0) (omega (arith, c.type_inv.a (h + i)))))
    (λ i r. part_read h (length c.args.b.now - h) i c.args.b.now (omega arith) ∙ sym (word_of_word (get_or c.args.b.now (h + i) 0) (omega (arith, c.type_inv.b (h + i)))))
    c.linear-then-n-eq0-2.ensures in
    subst (λ x. AreWords x (linear n a b) (c.join.new.low ++ c.join.new.high)) (sym c.requires.twice)
    (joined n h a b m p q c.join.new.low c.join.new.high (omega arith)
    (subst (λ x. AreWords x (linear h (half_sum h a) (half_sum h b)) m) (sym even) is_m)
    (subst (λ x. AreWords x (linear h a b) p) (sym even) is_p)
    (subst (λ x. AreWords x (linear h (high_half h a) (high_half h b)) q) (sym even) is_q)
    (omega arith) (omega arith)
    (subst (λ x. take (x / 2) c.join.new.low ≡ take (x / 2) p) size c.join.ensures.low_stays)
    (subst (λ x. drop (x / 2) c.join.new.high ≡ drop (x / 2) q) size c.join.ensures.high_stays)
    (subst (λ x. AreWords (x / 2) (λ i. of_words p (x / 2 + i) +ℤ ((of_words m i -ℤ of_words p i) -ℤ of_words q i))
    (drop (x / 2) c.join.new.low)) size c.join.ensures.low_added)
    (subst (λ x. AreWords (x / 2) (λ i. of_words q i +ℤ ((of_words m (x / 2 + i) -ℤ of_words p (x / 2 + i)) -ℤ of_words q (x / 2 + i)))
    (take (x / 2) c.join.new.high)) size c.join.ensures.high_added))
