-- One product of a key polynomial and a mask polynomial more.
use Rattle.std.proofs.Common.{◌≡◌, ℕ, ℤ, pos, ◌+ℤ◌, ◌+◌, ◌*◌, ◌<◌, ◌^◌, sym, ◌∙◌, ap, List, length, get_or, add-one}
use Rattle.rx_laws.specs.Sum.{sum_to}
use Rattle.rx_laws.specs.Torus.{word}
use Rattle.rx_laws.specs.Words.{of_words, AreWords}
use Rattle.rx_laws.proofs.Ring.{add_assoc_ℤ, add_zero_ℤ}
use Rattle.rx_laws.proofs.Sums.{sum_to-zero, sum_to-suc}
use Rattle.rx_laws.proofs.Torus.{word-add, word-word, word_of_word}
use Rattle.rx_ring.specs.Polynomial.{product}
use Rattle.rx_ring.specs.Parts.{of_parts}
use Rattle.rx_ring.proofs.Polynomial.{product_same}

-- a polynomial, with the products of the first polynomials of two lists added
abbrev pub products_added : ℕ → List ℕ → List ℕ → List ℕ → ℕ → ℕ → ℤ
products_added n bits masks start done i =
    of_words start i +ℤ sum_to done (λ j. product n (of_parts n bits j) (of_parts n masks j) i)

pub products_none : (n : ℕ) (bits masks start : List ℕ) → length start ≡ n → ((i : ℕ) → get_or start i 0 < 2 ^ 64) →
    AreWords n (products_added n bits masks start 0) start
products_none n bits masks start count fits = record {
  count = count;
  each = λ i p.
      sym (word_of_word (get_or start i 0) (fits i))
      ∙ ap word (sym (ap (λ x. of_words start i +ℤ x) (sum_to-zero (λ j. product n (of_parts n bits j) (of_parts n masks j) i))
      ∙ add_zero_ℤ (of_words start i)));
}

pub products_more : (n j : ℕ) (bits masks part mask start old new : List ℕ) →
    ((x : ℕ) → x < n → get_or part x 0 ≡ get_or bits (j * n + x) 0) →
    ((x : ℕ) → x < n → get_or mask x 0 ≡ get_or masks (j * n + x) 0) →
    AreWords n (products_added n bits masks start j) old →
    AreWords n (λ i. of_words old i +ℤ product n (of_words part) (of_words mask) i) new →
    AreWords n (products_added n bits masks start (j + 1)) new
products_more n j bits masks part mask start old new g h before added = record {
  count = added.count;
  each = λ i p.
      let f : ℕ → ℤ = λ j. product n (of_parts n bits j) (of_parts n masks j) i in
      added.each i p
      ∙ word-add (of_words old i) (products_added n bits masks start j i) (product n (of_words part) (of_words mask) i) (f j)
      (ap (λ k. word (pos k)) (before.each i p) ∙ word-word (products_added n bits masks start j i))
      (ap word (product_same n (of_words part) (of_parts n bits j) (of_words mask) (of_parts n masks j) i
      (λ x q. ap pos (g x q)) (λ x q. ap pos (h x q)) p))
      ∙ ap word (add_assoc_ℤ (of_words start i) (sum_to j f) (f j)
      ∙ ap (λ x. of_words start i +ℤ x) (sym (sum_to-suc j f) ∙ ap (λ k. sum_to k f) (sym (add-one j))));
}
