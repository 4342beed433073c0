-- The laws of words and of distances.
use Rattle.std.proofs.Common.{◌≡◌, ℕ, suc, ℤ, pos, negsuc, ◌+ℤ◌, ◌*ℤ◌, ◌-ℤ◌, ◌+◌, ◌-◌, ◌<◌, ◌≤◌, refl, sym, ◌∙◌, ap, arith, ◌*◌, ◌/◌, ◌%◌, ◌^◌, min}
use Rattle.std.proofs.lemmas.Int.{ints, unsigned_abs-mul}
use Rattle.std.specs.Int.RustNames.{unsigned_abs}
use Rattle.rx_laws.specs.Torus.{word, distance}
use Rattle.rx_laws.proofs.Ring.{mul_add, mul_comm_ℤ, mul_assoc_ℤ}
use Rattle.std.proofs.Common.{◌⊎◌, inl, inr}
use Rattle.std.proofs.lemmas.Bool.{cases_lt}
use lib.IntN.{neg_ℤ}
use mir.Syntax.{w64}
use mir.Val.{SFits, of_z}

pub abs-add : (a b : ℤ) → unsigned_abs (a +ℤ b) ≤ unsigned_abs a + unsigned_abs b
abs-add a b = omega (arith, ints)

pub word-lt : (z : ℤ) → word z < 2 ^ 64
unfolding word
word-lt (pos n) = omega arith
word-lt (negsuc n) = omega arith

-- a number is its word and a multiple of 2 ^ 64
pub word_split : (z : ℤ) → (k : ℤ) × (z ≡ pos (word z) +ℤ k *ℤ pos (2 ^ 64))
unfolding word
word_split (pos n) = (pos (n / 2 ^ 64), omega (arith, ints))
word_split (negsuc n) = (negsuc (n / 2 ^ 64), omega (arith, ints))

words_apart : (v w : ℕ) (k : ℤ) → v < 2 ^ 64 → w < 2 ^ 64 → pos v ≡ pos w +ℤ k *ℤ pos (2 ^ 64) → v ≡ w
words_apart v w k p q e = omega (arith, ints)

pub word_is : (z k : ℤ) (w : ℕ) → w < 2 ^ 64 → z ≡ pos w +ℤ k *ℤ pos (2 ^ 64) → word z ≡ w
word_is z k w p e =
    let s = word_split z in
    let b : word z < 2 ^ 64 = word-lt z in
    let f : z ≡ pos (word z) +ℤ s.0 *ℤ pos (2 ^ 64) = s.1 in
    words_apart (word z) w (k -ℤ s.0) b p (omega (arith, ints))

-- what is the same up to a multiple of 2 ^ 64 has one word, and the other way round
pub word_same : (a b k : ℤ) → a ≡ b +ℤ k *ℤ pos (2 ^ 64) → word a ≡ word b
word_same a b k e =
    let s = word_split b in
    let f : b ≡ pos (word b) +ℤ s.0 *ℤ pos (2 ^ 64) = s.1 in
    word_is a (k +ℤ s.0) (word b) (word-lt b) (omega (arith, ints))

pub word_gap : (a b : ℤ) → word a ≡ word b → (k : ℤ) × (a ≡ b +ℤ k *ℤ pos (2 ^ 64))
word_gap a b e =
    let s = word_split a in
    let t = word_split b in
    let f : a ≡ pos (word a) +ℤ s.0 *ℤ pos (2 ^ 64) = s.1 in
    let g : b ≡ pos (word b) +ℤ t.0 *ℤ pos (2 ^ 64) = t.1 in
    (s.0 -ℤ t.0, omega (arith, ints))

pub word-word : (z : ℤ) → word (pos (word z)) ≡ word z
word-word z =
    let s = word_split z in
    let f : z ≡ pos (word z) +ℤ s.0 *ℤ pos (2 ^ 64) = s.1 in
    word_same (pos (word z)) z (neg_ℤ s.0) (omega (arith, ints))

pub word_of_word : (w : ℕ) → w < 2 ^ 64 → word (pos w) ≡ w
word_of_word w p = word_is (pos w) (pos 0) w p (omega (arith, ints))

-- the word of a sum, of an opposite and of a product depends on the words alone
pub word-add : (a b c d : ℤ) → word a ≡ word b → word c ≡ word d → word (a +ℤ c) ≡ word (b +ℤ d)
word-add a b c d e f =
    let k = word_gap a b e in
    let l = word_gap c d f in
    let p : a ≡ b +ℤ k.0 *ℤ pos (2 ^ 64) = k.1 in
    let q : c ≡ d +ℤ l.0 *ℤ pos (2 ^ 64) = l.1 in
    word_same (a +ℤ c) (b +ℤ d) (k.0 +ℤ l.0) (omega (arith, ints))

pub word-neg : (a b : ℤ) → word a ≡ word b → word (neg_ℤ a) ≡ word (neg_ℤ b)
word-neg a b e =
    let k = word_gap a b e in
    let p : a ≡ b +ℤ k.0 *ℤ pos (2 ^ 64) = k.1 in
    word_same (neg_ℤ a) (neg_ℤ b) (neg_ℤ k.0) (omega (arith, ints))

pub word-mul : (c a b : ℤ) → word a ≡ word b → word (c *ℤ a) ≡ word (c *ℤ b)
word-mul c a b e =
    let k = word_gap a b e in
    word_same (c *ℤ a) (c *ℤ b) (c *ℤ k.0)
    (ap (λ x. c *ℤ x) k.1 ∙ mul_add c b (k.0 *ℤ pos (2 ^ 64))
    ∙ ap (λ x. c *ℤ b +ℤ x) (sym (mul_assoc_ℤ c k.0 (pos (2 ^ 64)))))

-- the distance is the least size of a number that is the same modulo 2 ^ 64
far : (w : ℕ) (r k : ℤ) → w < 2 ^ 64 → pos w ≡ r +ℤ k *ℤ pos (2 ^ 64) → min w (2 ^ 64 - w) ≤ unsigned_abs r
far w r k p e = omega (arith, ints)

pub distance_least : (x r k : ℤ) → x ≡ r +ℤ k *ℤ pos (2 ^ 64) → distance x ≤ unsigned_abs r
unfolding distance
distance_least x r k e =
    let s = word_split x in
    let f : x ≡ pos (word x) +ℤ s.0 *ℤ pos (2 ^ 64) = s.1 in
    far (word x) r (k -ℤ s.0) (word-lt x) (omega (arith, ints))

near : (w : ℕ) → w < 2 ^ 64 → (r : ℤ) × (k : ℤ) × (pos w ≡ r +ℤ k *ℤ pos (2 ^ 64)) × (unsigned_abs r ≡ min w (2 ^ 64 - w))
near w p = by_case (cases_lt w (2 ^ 63)) where
  by_case : (w < 2 ^ 63) ⊎ (2 ^ 63 ≤ w) → (r : ℤ) × (k : ℤ) × (pos w ≡ r +ℤ k *ℤ pos (2 ^ 64)) × (unsigned_abs r ≡ min w (2 ^ 64 - w))
  by_case (inl h) = (pos w, pos 0, omega (arith, ints), omega (arith, ints))
  by_case (inr h) = (pos w -ℤ pos (2 ^ 64), pos 1, omega (arith, ints), omega (arith, ints))

pub distance_reached : (x : ℤ) → (r : ℤ) × (k : ℤ) × (x ≡ r +ℤ k *ℤ pos (2 ^ 64)) × (unsigned_abs r ≡ distance x)
unfolding distance
distance_reached x =
    let s = word_split x in
    let t = near (word x) (word-lt x) in
    let f : x ≡ pos (word x) +ℤ s.0 *ℤ pos (2 ^ 64) = s.1 in
    let g : pos (word x) ≡ t.0 +ℤ t.1 *ℤ pos (2 ^ 64) = t.2 in
    (t.0, s.0 +ℤ t.1, omega (arith, ints), t.3)

pub distance-word : (x y : ℤ) → word x ≡ word y → distance x ≡ distance y
unfolding distance
distance-word x y e = ap (λ (w : ℕ). min w (2 ^ 64 - w)) e

pub distance-of_word : (w : ℕ) → w < 2 ^ 64 → distance (pos w) ≡ min w (2 ^ 64 - w)
unfolding distance
distance-of_word w p = ap (λ (v : ℕ). min v (2 ^ 64 - v)) (word_of_word w p)

pub distance-add : (x y : ℤ) → distance (x +ℤ y) ≤ distance x + distance y
distance-add x y =
    let s = distance_reached x in
    let t = distance_reached y in
    let e : x ≡ s.0 +ℤ s.1 *ℤ pos (2 ^ 64) = s.2 in
    let f : y ≡ t.0 +ℤ t.1 *ℤ pos (2 ^ 64) = t.2 in
    let l : distance (x +ℤ y) ≤ unsigned_abs (s.0 +ℤ t.0) =
    distance_least (x +ℤ y) (s.0 +ℤ t.0) (s.1 +ℤ t.1) (omega (arith, ints)) in
    omega (arith, abs-add s.0 t.0, s.3, t.3)

distance-neg_le : (x : ℤ) → distance (neg_ℤ x) ≤ distance x
distance-neg_le x =
    let s = distance_reached x in
    let e : x ≡ s.0 +ℤ s.1 *ℤ pos (2 ^ 64) = s.2 in
    let l : distance (neg_ℤ x) ≤ unsigned_abs (neg_ℤ s.0) =
    distance_least (neg_ℤ x) (neg_ℤ s.0) (neg_ℤ s.1) (omega (arith, ints)) in
    omega (arith, ints, s.3)

pub distance-neg : (x : ℤ) → distance (neg_ℤ x) ≡ distance x
distance-neg x =
    let k : distance (neg_ℤ (neg_ℤ x)) ≡ distance x = ap distance (omega (arith, ints)) in
    omega (arith, distance-neg_le x, distance-neg_le (neg_ℤ x))

pub distance-sub : (x y : ℤ) → distance (x -ℤ y) ≤ distance x + distance y
distance-sub x y = omega (arith, distance-add x (neg_ℤ y), distance-neg y)

pub distance-mul : (k x : ℤ) → distance (k *ℤ x) ≤ unsigned_abs k * distance x
distance-mul k x =
    let s = distance_reached x in
    let l : distance (k *ℤ x) ≤ unsigned_abs (k *ℤ s.0) =
    distance_least (k *ℤ x) (k *ℤ s.0) (k *ℤ s.1)
    (ap (λ z. k *ℤ z) s.2 ∙ mul_add k s.0 (s.1 *ℤ pos (2 ^ 64))
    ∙ ap (λ z. k *ℤ s.0 +ℤ z) (sym (mul_assoc_ℤ k s.1 (pos (2 ^ 64))))) in
    omega (arith, unsigned_abs-mul k s.0, ap (λ n. unsigned_abs k * n) s.3)

-- a number of size at most d is at most that far
pub distance_size : (x : ℤ) → distance x ≤ unsigned_abs x
distance_size x = distance_least x x (pos 0) (omega (arith, ints))

pub word-mul_both : (a b c d : ℤ) → word a ≡ word c → word b ≡ word d → word (a *ℤ b) ≡ word (c *ℤ d)
word-mul_both a b c d e f =
    ap word (mul_comm_ℤ a b) ∙ word-mul b a c e ∙ ap word (mul_comm_ℤ b c) ∙ word-mul c b d f

-- what the code's wrapping operations give
pub word_of : (n : ℕ) → word (pos n) ≡ n % 2 ^ 64
unfolding word
word_of n = refl

pub word-wrapping_add : (m n : ℕ) (a b : ℤ) → word (pos m) ≡ word a → word (pos n) ≡ word b → (m + n) % 2 ^ 64 ≡ word (a +ℤ b)
word-wrapping_add m n a b e f = sym (word_of (m + n)) ∙ word-add (pos m) a (pos n) b e f

pub word-wrapping_mul : (m n : ℕ) (a b : ℤ) → word (pos m) ≡ word a → word (pos n) ≡ word b → m * n % 2 ^ 64 ≡ word (a *ℤ b)
word-wrapping_mul m n a b e f = sym (word_of (m * n)) ∙ word-mul_both (pos m) (pos n) a b e f

pub word-wrapping_neg : (n : ℕ) (b : ℤ) → n < 2 ^ 64 → word (pos n) ≡ word b → (2 ^ 64 - n) % 2 ^ 64 ≡ word (neg_ℤ b)
word-wrapping_neg n b p e =
    sym (word_of (2 ^ 64 - n))
    ∙ word_same (pos (2 ^ 64 - n)) (neg_ℤ (pos n)) (pos 1) (omega (arith, ints))
    ∙ word-neg (pos n) b e

pub word-cast : (z : ℤ) → SFits w64 z → word (pos (of_z w64 z)) ≡ word z
word-cast (pos n) f = refl
word-cast (negsuc n) f = word_same (pos (2 ^ 64 - suc n)) (negsuc n) (pos 1) (omega (arith, ints, f.sfits))
