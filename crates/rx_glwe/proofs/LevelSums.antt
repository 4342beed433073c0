-- One level more.
use Rattle.std.proofs.Common.{◌≡◌, ℕ, ℤ, pos, ◌+ℤ◌, ◌+◌, ◌*◌, ◌<◌, ◌^◌, sym, ◌∙◌, ap, arith, List, length, get_or, add-one}
use Rattle.std.proofs.lemmas.Nat.{mul-add-lt}
use Rattle.rx_laws.specs.Sum.{sum_to}
use Rattle.rx_laws.specs.Torus.{word}
use Rattle.rx_laws.specs.Words.{of_numbers}
use Rattle.rx_laws.proofs.Ring.{add_assoc_ℤ, add_zero_ℤ}
use Rattle.rx_laws.proofs.Sums.{sum_to-zero, sum_to-suc}
use Rattle.rx_laws.proofs.Torus.{word-add, word-word, word_of_word}
use Rattle.rx_ring.specs.Polynomial.{product}
use Rattle.rx_ring.specs.Parts.{of_parts, AreParts}
use Rattle.rx_ring.proofs.Polynomial.{product_same}
use Rattle.rx_params.specs.declared.params.Params.{Params}
use Rattle.rx_glwe.specs.Sizes.{glwe_size}
use Rattle.rx_glwe.specs.Levels.{level_digits, level_row, levels_added}

levels_added_none : (p : Params) (digits : List ℤ) (rows acc : List ℕ) (q i : ℕ) →
    levels_added p digits rows acc 0 q i ≡ of_parts p.poly_size acc q i
unfolding levels_added
levels_added_none p digits rows acc q i =
    ap (λ x. of_parts p.poly_size acc q i +ℤ x)
    (sum_to-zero (λ t. product p.poly_size (level_digits p digits t) (level_row p rows t q) i))
    ∙ add_zero_ℤ (of_parts p.poly_size acc q i)

levels_added_next : (p : Params) (t : ℕ) (digits : List ℤ) (rows acc : List ℕ) (q i : ℕ) →
    levels_added p digits rows acc t q i +ℤ product p.poly_size (level_digits p digits t) (level_row p rows t q) i
    ≡ levels_added p digits rows acc (t + 1) q i
unfolding levels_added
levels_added_next p t digits rows acc q i =
    let f : ℕ → ℤ = λ t. product p.poly_size (level_digits p digits t) (level_row p rows t q) i in
    add_assoc_ℤ (of_parts p.poly_size acc q i) (sum_to t f) (f t)
    ∙ ap (λ x. of_parts p.poly_size acc q i +ℤ x) (sym (sum_to-suc t f) ∙ ap (λ k. sum_to k f) (sym (add-one t)))

pub levels_none : (p : Params) (digits : List ℤ) (rows acc : List ℕ) → length acc ≡ glwe_size p → ((i : ℕ) → get_or acc i 0 < 2 ^ 64) →
    AreParts p.poly_size (p.glwe_dim + 1) (levels_added p digits rows acc 0) acc
levels_none p digits rows acc count fits = record {
  count_is = count;
  each = λ q i r s.
      let k : ℕ = q * p.poly_size + i in
      sym (word_of_word (get_or acc k 0) (fits k)) ∙ ap word (sym (levels_added_none p digits rows acc q i));
}

pub levels_more : (p : Params) (t : ℕ) (digits part : List ℤ) (rows row acc old new : List ℕ) →
    ((x : ℕ) → x < p.poly_size → get_or part x (pos 0) ≡ get_or digits (t * p.poly_size + x) (pos 0)) →
    ((j : ℕ) → j < glwe_size p → get_or row j 0 ≡ get_or rows (t * glwe_size p + j) 0) →
    AreParts p.poly_size (p.glwe_dim + 1) (levels_added p digits rows acc t) old →
    AreParts p.poly_size (p.glwe_dim + 1)
    (λ q i. of_parts p.poly_size old q i +ℤ product p.poly_size (of_numbers part) (of_parts p.poly_size row q) i) new →
    AreParts p.poly_size (p.glwe_dim + 1) (levels_added p digits rows acc (t + 1)) new
levels_more p t digits part rows row acc old new g h before added = record {
  count_is = added.count_is;
  each = λ q i r s.
      let n : ℕ = p.poly_size in
      added.each q i r s
      ∙ word-add (of_parts n old q i) (levels_added p digits rows acc t q i)
      (product n (of_numbers part) (of_parts n row q) i) (product n (level_digits p digits t) (level_row p rows t q) i)
      (ap (λ k. word (pos k)) (before.each q i r s) ∙ word-word (levels_added p digits rows acc t q i))
      (ap word (product_same n (of_numbers part) (level_digits p digits t) (of_parts n row q) (level_row p rows t q) i
      (λ x u. g x u) (λ x u. ap pos (h (q * n + x) (omega (arith, mul-add-lt q n x (p.glwe_dim + 1) r u)))) s))
      ∙ ap word (levels_added_next p t digits rows acc q i);
}
