-- One polynomial of the input more.
use Rattle.std.proofs.Common.{◌≡◌, ℕ, ℤ, pos, ◌+ℤ◌, ◌+◌, ◌*◌, ◌<◌, ◌^◌, refl, sym, ◌∙◌, ap, arith, List, length, get_or, add-one}
use Rattle.std.proofs.lemmas.Nat.{mul-add-lt}
use Rattle.rx_laws.specs.Sum.{sum_to}
use Rattle.rx_laws.specs.Torus.{word}
use Rattle.rx_laws.proofs.Ring.{add_assoc_ℤ, add_zero_ℤ}
use Rattle.rx_laws.proofs.Sums.{sum_to-zero, sum_to-suc, sum_to-same}
use Rattle.rx_laws.proofs.Torus.{word-add, word-word, word_of_word}
use Rattle.rx_ring.specs.Polynomial.{product}
use Rattle.rx_ring.specs.Parts.{of_parts, AreParts}
use Rattle.rx_ring.specs.Glwe.{external}
use Rattle.rx_ring.proofs.Polynomial.{product_same}
use Rattle.rx_params.specs.declared.params.Params.{Params}
use Rattle.rx_glwe.specs.Sizes.{glwe_size}
use Rattle.rx_glwe.specs.Levels.{level_digits, level_row, levels_added}
use Rattle.rx_glwe.specs.External.{glwe_digits, ggsw_rows, external_of}

-- what polynomial j of the input adds to polynomial q
abbrev pub polynomial_term : Params → List ℕ → List ℕ → ℕ → ℕ → ℕ → ℤ
polynomial_term p ggsw input q i j =
    sum_to p.pbs_level (λ t. product p.poly_size (glwe_digits p (of_parts p.poly_size input) j t) (ggsw_rows p ggsw j t q) i)

-- polynomial q of the accumulator, with what the first polynomials of the input add
abbrev pub polynomials_added : Params → List ℕ → List ℕ → List ℕ → ℕ → ℕ → ℕ → ℤ
polynomials_added p ggsw input acc done q i = of_parts p.poly_size acc q i +ℤ sum_to done (polynomial_term p ggsw input q i)

pub polynomials_none : (p : Params) (ggsw input acc : List ℕ) → length acc ≡ glwe_size p → ((i : ℕ) → get_or acc i 0 < 2 ^ 64) →
    AreParts p.poly_size (p.glwe_dim + 1) (polynomials_added p ggsw input acc 0) acc
polynomials_none p ggsw input acc count fits = record {
  count_is = count;
  each = λ q i r s.
      let k : ℕ = q * p.poly_size + i in
      sym (word_of_word (get_or acc k 0) (fits k))
      ∙ ap word (sym (ap (λ x. of_parts p.poly_size acc q i +ℤ x) (sum_to-zero (polynomial_term p ggsw input q i))
      ∙ add_zero_ℤ (of_parts p.poly_size acc q i)));
}

-- the levels of a polynomial add its term
levels_term : (p : Params) (j : ℕ) (ggsw input rows acc : List ℕ) (digits : List ℤ) (q i : ℕ) → q < p.glwe_dim + 1 → i < p.poly_size →
    ((t x : ℕ) → t < p.pbs_level → x < p.poly_size → level_digits p digits t x ≡ glwe_digits p (of_parts p.poly_size input) j t x) →
    ((m : ℕ) → m < p.pbs_level * glwe_size p → get_or rows m 0 ≡ get_or ggsw (j * (p.pbs_level * glwe_size p) + m) 0) →
    levels_added p digits rows acc p.pbs_level q i ≡ of_parts p.poly_size acc q i +ℤ polynomial_term p ggsw input q i j
unfolding levels_added
levels_term p j ggsw input rows acc digits q i r s g h =
    let n : ℕ = p.poly_size in
    let size : ℕ = glwe_size p in
    let l : ℕ = p.pbs_level in
    let d : ℕ → ℕ → ℤ = glwe_digits p (of_parts n input) j in
    ap (λ x. of_parts n acc q i +ℤ x)
    (sum_to-same l (λ t. product n (level_digits p digits t) (level_row p rows t q) i) (λ t. product n (d t) (ggsw_rows p ggsw j t q) i)
    (λ t u. product_same n (level_digits p digits t) (d t) (level_row p rows t q) (ggsw_rows p ggsw j t q) i
    (λ x v. g t x u v)
    (λ x v.
    let m : ℕ = t * size + (q * n + x) in
    let below : q * n + x < size = omega (arith, mul-add-lt q n x (p.glwe_dim + 1) r v) in
    let place : j * (l * size) + m ≡ (j * l + t) * size + (q * n + x) = omega arith in
    ap pos (h m (omega (arith, mul-add-lt t size (q * n + x) l u below)) ∙ ap (λ y. get_or ggsw y 0) place)) s))

pub polynomials_more : (p : Params) (j : ℕ) (ggsw input rows start old new : List ℕ) (digits : List ℤ) →
    ((t x : ℕ) → t < p.pbs_level → x < p.poly_size → level_digits p digits t x ≡ glwe_digits p (of_parts p.poly_size input) j t x) →
    ((m : ℕ) → m < p.pbs_level * glwe_size p → get_or rows m 0 ≡ get_or ggsw (j * (p.pbs_level * glwe_size p) + m) 0) →
    AreParts p.poly_size (p.glwe_dim + 1) (polynomials_added p ggsw input start j) old →
    AreParts p.poly_size (p.glwe_dim + 1) (levels_added p digits rows old p.pbs_level) new →
    AreParts p.poly_size (p.glwe_dim + 1) (polynomials_added p ggsw input start (j + 1)) new
polynomials_more p j ggsw input rows start old new digits g h before added = record {
  count_is = added.count_is;
  each = λ q i r s.
      let n : ℕ = p.poly_size in
      let f : ℕ → ℤ = polynomial_term p ggsw input q i in
      added.each q i r s
      ∙ ap word (levels_term p j ggsw input rows old digits q i r s g h)
      ∙ word-add (of_parts n old q i) (polynomials_added p ggsw input start j q i) (f j) (f j)
      (ap (λ k. word (pos k)) (before.each q i r s) ∙ word-word (polynomials_added p ggsw input start j q i)) refl
      ∙ ap word (add_assoc_ℤ (of_parts n start q i) (sum_to j f) (f j)
      ∙ ap (λ x. of_parts n start q i +ℤ x) (sym (sum_to-suc j f) ∙ ap (λ k. sum_to k f) (sym (add-one j))));
}

external_is : (p : Params) (ggsw input : List ℕ) (q i : ℕ) →
    sum_to (p.glwe_dim + 1) (polynomial_term p ggsw input q i) ≡ external_of p ggsw input q i
unfolding external
external_is p ggsw input q i = ap (λ k. sum_to k (polynomial_term p ggsw input q i)) (add-one p.glwe_dim)

pub polynomials_all : (p : Params) (ggsw input start xs : List ℕ) →
    AreParts p.poly_size (p.glwe_dim + 1) (polynomials_added p ggsw input start (p.glwe_dim + 1)) xs →
    AreParts p.poly_size (p.glwe_dim + 1) (λ q i. of_parts p.poly_size start q i +ℤ external_of p ggsw input q i) xs
polynomials_all p ggsw input start xs are = record {
  count_is = are.count_is;
  each = λ q i r s. are.each q i r s ∙ ap (λ x. word (of_parts p.poly_size start q i +ℤ x)) (external_is p ggsw input q i);
}
