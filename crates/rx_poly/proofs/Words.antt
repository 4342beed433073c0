-- Steps on single words.
use Rattle.std.proofs.Common.{◌≡◌, ℕ, ℤ, pos, ◌+ℤ◌, ◌*ℤ◌, ◌-ℤ◌, ◌+◌, ◌-◌, ◌*◌, ◌<◌, ◌%◌, ◌^◌, refl, sym, ◌∙◌, ap, arith}
use Rattle.std.proofs.lemmas.Int.{ints}
use Rattle.rx_laws.specs.Torus.{word}
use Rattle.rx_laws.proofs.Torus.{word_of, word-add, word-neg, word-word, word_same, word-wrapping_add, word-wrapping_mul}
use lib.IntN.{neg_ℤ}

-- a multiple added
pub word-multiple_added : (a u b : ℕ) → (a + u * b % 2 ^ 64) % 2 ^ 64 ≡ word (pos a +ℤ pos u *ℤ pos b)
word-multiple_added a u b =
    word-wrapping_add a (u * b % 2 ^ 64) (pos a) (pos u *ℤ pos b) refl
    (ap (λ x. word (pos x)) (word-wrapping_mul u b (pos u) (pos b) refl refl) ∙ word-word (pos u *ℤ pos b))

-- a word taken from another
pub word-wrapping_sub : (m n : ℕ) (a : ℤ) → n < 2 ^ 64 → word (pos m) ≡ word a → (m + (2 ^ 64 - n)) % 2 ^ 64 ≡ word (a -ℤ pos n)
word-wrapping_sub m n a p e =
    sym (word_of (m + (2 ^ 64 - n)))
    ∙ word_same (pos (m + (2 ^ 64 - n))) (pos m -ℤ pos n) (pos 1) (omega (arith, ints))
    ∙ word-add (pos m) a (neg_ℤ (pos n)) (neg_ℤ (pos n)) e refl

-- two words taken from a third, and what is left added
pub word_joined : (s m p r : ℕ) → p < 2 ^ 64 → r < 2 ^ 64 →
    (s + ((m + (2 ^ 64 - p)) % 2 ^ 64 + (2 ^ 64 - r)) % 2 ^ 64) % 2 ^ 64 ≡ word (pos s +ℤ ((pos m -ℤ pos p) -ℤ pos r))
word_joined s m p r fits also =
    let y : ℤ = pos m -ℤ pos p in
    let x : ℕ = (m + (2 ^ 64 - p)) % 2 ^ 64 in
    let z : ℕ = (x + (2 ^ 64 - r)) % 2 ^ 64 in
    let is_x : x ≡ word y = word-wrapping_sub m p (pos m) fits refl in
    let is_z : z ≡ word (y -ℤ pos r) = word-wrapping_sub x r y also (ap (λ k. word (pos k)) is_x ∙ word-word y) in
    word-wrapping_add s z (pos s) (y -ℤ pos r) refl (ap (λ k. word (pos k)) is_z ∙ word-word (y -ℤ pos r))

-- a sum or a difference of words, added or taken away
pub word_added_sum : (x p q : ℕ) → (x + (p + q) % 2 ^ 64) % 2 ^ 64 ≡ word (pos x +ℤ (pos p +ℤ pos q))
word_added_sum x p q =
    word-wrapping_add x ((p + q) % 2 ^ 64) (pos x) (pos p +ℤ pos q) refl
    (ap (λ k. word (pos k)) (sym (word_of (p + q))) ∙ word-word (pos p +ℤ pos q))

pub word_added_difference : (x q p : ℕ) → p < 2 ^ 64 → (x + (q + (2 ^ 64 - p)) % 2 ^ 64) % 2 ^ 64 ≡ word (pos x +ℤ (pos q -ℤ pos p))
word_added_difference x q p fits =
    word-wrapping_add x ((q + (2 ^ 64 - p)) % 2 ^ 64) (pos x) (pos q -ℤ pos p) refl
    (ap (λ k. word (pos k)) (word-wrapping_sub q p (pos q) fits refl) ∙ word-word (pos q -ℤ pos p))

pub word_taken_sum : (x p q : ℕ) → (x + (2 ^ 64 - (p + q) % 2 ^ 64)) % 2 ^ 64 ≡ word (pos x -ℤ (pos p +ℤ pos q))
word_taken_sum x p q =
    let n : ℕ = (p + q) % 2 ^ 64 in
    let same : word (pos n) ≡ word (pos p +ℤ pos q) = ap (λ k. word (pos k)) (sym (word_of (p + q))) ∙ word-word (pos p +ℤ pos q) in
    word-wrapping_sub x n (pos x) (omega arith) refl
    ∙ word-add (pos x) (pos x) (neg_ℤ (pos n)) (neg_ℤ (pos p +ℤ pos q)) refl (word-neg (pos n) (pos p +ℤ pos q) same)

-- a word with its sign turned
pub word-taken_from_none : (n : ℕ) → n < 2 ^ 64 → (0 + (2 ^ 64 - n)) % 2 ^ 64 ≡ word (neg_ℤ (pos n))
word-taken_from_none n p =
    let e : pos 0 -ℤ pos n ≡ neg_ℤ (pos n) = omega (arith, ints) in
    word-wrapping_sub 0 n (pos 0) p refl ∙ ap word e
