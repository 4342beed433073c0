use Rattle.std.proofs.Common.{◌≡◌, ℕ, ℤ, ◌*ℤ◌, ◌<◌, List, length, get_or, refl, ◌∙◌, arith}
use Rattle.rx_laws.specs.Torus.{word}
use Rattle.rx_laws.specs.Words.{of_words, of_numbers}
use Rattle.rx_laws.proofs.Torus.{word-add, word-mul_both}
use Rattle.rx_ring.specs.Polynomial.{turned, product}
use Rattle.rx_ring.proofs.Congruence.{sum_to-word}
use Rattle.rx_poly.proofs.Spread.{word_again}
use Rattle.rx_poly.proofs.products.product_add.Goals as goal

-- the words of numbers have the same product
product_of_words : (n : ℕ) (a c b : ℕ → ℤ) (i : ℕ) → ((j : ℕ) → j < n → word (a j) ≡ word (c j)) →
    word (product n a b i) ≡ word (product n c b i)
unfolding product
product_of_words n a c b i h =
    sum_to-word n (λ j. a j *ℤ turned n b j i) (λ j. c j *ℤ turned n b j i)
    (λ j q. word-mul_both (a j) (turned n b j i) (c j) (turned n b j i) (h j q) refl)

pub returns-then-n-scratch-clause-added : goal.returns-then-n-scratch-clause-added
returns-then-n-scratch-clause-added c =
    let n : ℕ = length c.args.acc.now in
    let digits : List ℕ = c.write_digits.new.out in
    let a : ℕ → ℤ = of_numbers c.args.small.now in
    let b : ℕ → ℤ = of_words c.args.big.now in
    let old : ℕ → ℤ = of_words c.args.acc.now in
    record {
      count = c.product_by_halves.ensures.added.count;
      each = λ i p.
          c.product_by_halves.ensures.added.each i p
          ∙ word-add (old i) (old i) (product n (of_words digits) b i) (product n a b i) refl
          (product_of_words n (of_words digits) a b i
          (λ j q. word_again (get_or digits j 0) (a j) (c.write_digits.ensures.each j (omega arith))));
    }
