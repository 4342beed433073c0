-- Convolutions that are added to words.
use Rattle.std.proofs.Common.{◌≡◌, ℕ, suc, ℤ, pos, ◌+ℤ◌, ◌*ℤ◌, ◌+◌, ◌-◌, ◌*◌, ◌<◌, ◌%◌, ◌^◌, refl, sym, ◌∙◌, ap, arith, add-one}
use Rattle.std.proofs.lemmas.Int.{ints, to_z-of_z}
use Rattle.rx_laws.specs.Sum.{sum_to}
use Rattle.rx_laws.specs.Torus.{word}
use Rattle.rx_laws.proofs.Sums.{sum_to-zero, sum_to-suc}
use Rattle.rx_laws.proofs.Torus.{word-add, word-word, word-cast, word-mul_both, word_of_word, word-wrapping_add, word-wrapping_mul}
use Rattle.rx_poly.specs.Turns.{convolved}
use mir.Syntax.{w64}
use mir.Val.{SFits, to_z, of_z}

-- the word of a signed number that is read as one without a sign
pub word-cast_unsigned : (w : ℕ) (z : ℤ) → SFits w64 z → w ≡ of_z w64 (to_z w64 (of_z w64 z)) → word (pos w) ≡ word z
word-cast_unsigned w z fits e = ap (λ x. word (pos x)) (e ∙ ap (of_z w64) (to_z-of_z w64 z fits)) ∙ word-cast z fits

-- one term more of a sum, added to a word
pub sum_none : (x : ℕ) (f : ℕ → ℤ) → x < 2 ^ 64 → x ≡ word (pos x +ℤ sum_to 0 f)
sum_none x f p = sym (word_of_word x p) ∙ ap word (omega (arith, ints, sum_to-zero f))

pub sum_more : (m u w v : ℕ) (x z : ℤ) (f : ℕ → ℤ) → u ≡ word (x +ℤ sum_to m f) → word (pos w) ≡ word z → z *ℤ pos v ≡ f m →
    word (pos u +ℤ pos w *ℤ pos v) ≡ word (x +ℤ sum_to (m + 1) f)
sum_more m u w v x z f e g h =
    let y : ℤ = x +ℤ sum_to m f in
    let s : sum_to (suc m) f ≡ sum_to m f +ℤ f m = sum_to-suc m f in
    let t : y +ℤ f m ≡ x +ℤ sum_to (suc m) f = omega (arith, ints) in
    word-add (pos u) y (pos w *ℤ pos v) (f m)
    (ap (λ k. word (pos k)) e ∙ word-word y)
    (word-mul_both (pos w) (pos v) z (pos v) g refl ∙ ap word h)
    ∙ ap word (t ∙ ap (λ k. x +ℤ sum_to k f) (sym (add-one m)))

word_again : (x : ℕ) (y : ℤ) → x ≡ word y → word (pos x) ≡ word y
word_again x y e = ap (λ k. word (pos k)) e ∙ word-word y

-- one product more, by the wrapping operations
product_more : (u w v : ℕ) (y z : ℤ) → word (pos u) ≡ word y → word (pos w) ≡ word z → (u + w * v % 2 ^ 64) % 2 ^ 64 ≡ word (y +ℤ z *ℤ pos v)
product_more u w v y z e g =
    word-wrapping_add u (w * v % 2 ^ 64) y (z *ℤ pos v) e
    (word_again (w * v % 2 ^ 64) (z *ℤ pos v) (word-wrapping_mul w v z (pos v) g refl))

add_comm : (m n : ℕ) → m + n ≡ n + m
add_comm m n = omega arith

zero_before : (n : ℕ) → n ≡ 0 + n
zero_before n = omega arith

sum_of_four : (x : ℤ) (f : ℕ → ℤ) → (((x +ℤ f 0) +ℤ f 1) +ℤ f 2) +ℤ f 3 ≡ x +ℤ sum_to 4 f
sum_of_four x f = omega (arith, ints, sum_to-zero f, sum_to-suc 0 f, sum_to-suc 1 f, sum_to-suc 2 f, sum_to-suc 3 f)

pub four_added : (u p q r s v3 v2 v1 v0 i : ℕ) (a : ℕ → ℤ) (b : ℕ → ℕ) →
    word (pos p) ≡ word (a 0) → word (pos q) ≡ word (a 1) → word (pos r) ≡ word (a 2) → word (pos s) ≡ word (a 3) →
    v3 ≡ b (i + 3) → v2 ≡ b (i + 2) → v1 ≡ b (i + 1) → v0 ≡ b i →
    ((((u + p * v3 % 2 ^ 64) % 2 ^ 64 + q * v2 % 2 ^ 64) % 2 ^ 64 + r * v1 % 2 ^ 64) % 2 ^ 64 + s * v0 % 2 ^ 64) % 2 ^ 64
    ≡ word (pos u +ℤ convolved 4 a (λ k. pos (b k)) i)
unfolding convolved
four_added u p q r s v3 v2 v1 v0 i a b e f g h is_3 is_2 is_1 is_0 =
    let t : ℕ → ℤ = λ k. a k *ℤ pos (b (4 - 1 - k + i)) in
    let x1 : ℕ = (u + p * v3 % 2 ^ 64) % 2 ^ 64 in
    let x2 : ℕ = (x1 + q * v2 % 2 ^ 64) % 2 ^ 64 in
    let x3 : ℕ = (x2 + r * v1 % 2 ^ 64) % 2 ^ 64 in
    let y1 : ℤ = pos u +ℤ t 0 in
    let y2 : ℤ = y1 +ℤ t 1 in
    let y3 : ℤ = y2 +ℤ t 2 in
    let w1 : x1 ≡ word y1 =
    product_more u p v3 (pos u) (a 0) refl e ∙ ap (λ z. word (pos u +ℤ a 0 *ℤ pos z)) (is_3 ∙ ap b (add_comm i 3)) in
    let w2 : x2 ≡ word y2 =
    product_more x1 q v2 y1 (a 1) (word_again x1 y1 w1) f ∙ ap (λ z. word (y1 +ℤ a 1 *ℤ pos z)) (is_2 ∙ ap b (add_comm i 2)) in
    let w3 : x3 ≡ word y3 =
    product_more x2 r v1 y2 (a 2) (word_again x2 y2 w2) g ∙ ap (λ z. word (y2 +ℤ a 2 *ℤ pos z)) (is_1 ∙ ap b (add_comm i 1)) in
    product_more x3 s v0 y3 (a 3) (word_again x3 y3 w3) h
    ∙ ap (λ z. word (y3 +ℤ a 3 *ℤ pos z)) (is_0 ∙ ap b (zero_before i))
    ∙ ap word (sum_of_four (pos u) t)
