-- The places of a short plain product, each a sum of products that wraps at every step.
use Rattle.std.proofs.Common.{◌<◌, ◌≡◌, ℕ, zero, suc, ℤ, pos, ◌+ℤ◌, ◌-ℤ◌, ◌*ℤ◌, ◌+◌, ◌-◌, ◌*◌, ◌%◌, ◌^◌, refl, sym, ◌∙◌, ap, arith}
use Rattle.std.proofs.lemmas.Int.{ints}
use Rattle.rx_laws.specs.Sum.{sum_to}
use Rattle.rx_laws.specs.Torus.{word}
use Rattle.rx_laws.proofs.Sums.{sum_to-zero, sum_to-same, sum_to-split, sum_to-nothing}
use Rattle.rx_ring.specs.Linear.{raised, cut, times, linear}
use Rattle.rx_ring.proofs.Linear.{raised_at, raised_none, cut_in, cut_past, linear-word}
use Rattle.rx_poly.proofs.Words.{word-multiple_added, word_joined, word-wrapping_sub}
use Rattle.rx_poly.proofs.Spread.{word_again, word-sub, word_quarter, no_term, passed}
use Rattle.rx_laws.proofs.Torus.{word_of, word-lt, word-add}

-- the sum of the first k products of words
unfoldable pub wrapped : ℕ → (ℕ → ℕ) → (ℕ → ℕ) → ℕ
wrapped zero x y = 0
wrapped (suc k) x y = (wrapped k x y + x k * y k % 2 ^ 64) % 2 ^ 64

pub wrapped_is : (k : ℕ) (x y : ℕ → ℕ) → wrapped k x y ≡ word (sum_to k (λ j. pos (x j) *ℤ pos (y j)))
unfolding sum_to word wrapped
wrapped_is zero x y = refl
wrapped_is (suc k) x y =
    let s : ℤ = sum_to k (λ j. pos (x j) *ℤ pos (y j)) in
    let t : ℤ = pos (x k) *ℤ pos (y k) in
    word-multiple_added (wrapped k x y) (x k) (y k)
    ∙ word-add (pos (wrapped k x y)) s t t (word_again (wrapped k x y) s (wrapped_is k x y)) refl

-- place i below n meets the first terms, and place n + k the last ones
pub place_below : (n i m : ℕ) (a b : ℕ → ℤ) → suc i + m ≡ n → linear n a b i ≡ sum_to (suc i) (λ j. a j *ℤ b (i - j))
unfolding linear times
place_below n i m a b e =
    let f : ℕ → ℤ = λ j. a j *ℤ raised j (cut n b) i in
    ap (λ k. sum_to k f) (sym e)
    ∙ sym (passed (suc i) m f (λ k p. no_term (a (suc i + k)) (raised (suc i + k) (cut n b) i)
    (raised_none (suc i + k) (cut n b) i (omega arith))))
    ∙ sum_to-same (suc i) f (λ j. a j *ℤ b (i - j))
    (λ j p. ap (λ x. a j *ℤ x) (raised_at j (cut n b) i (omega arith) ∙ cut_in n b (i - j) (omega arith)))

first_nothing : (x y z : ℤ) → x ≡ y +ℤ z → y ≡ pos 0 → x ≡ z
first_nothing x y z e f = omega (arith, ints)

pub place_from : (n k m : ℕ) (a b : ℕ → ℤ) → suc k + m ≡ n →
    linear n a b (n + k) ≡ sum_to m (λ j. a (suc k + j) *ℤ b (n - suc j))
unfolding linear times
place_from n k m a b e =
    let f : ℕ → ℤ = λ j. a j *ℤ raised j (cut n b) (n + k) in
    let none : sum_to (suc k) f ≡ pos 0 =
    sum_to-same (suc k) f (λ j. pos 0) (λ j p. no_term (a j) (raised j (cut n b) (n + k))
    (raised_at j (cut n b) (n + k) (omega arith) ∙ cut_past n b (n + k - j) (omega arith)))
    ∙ sum_to-nothing (suc k) in
    ap (λ x. sum_to x f) (sym e)
    ∙ first_nothing (sum_to (suc k + m) f) (sum_to (suc k) f) (sum_to m (λ j. f (suc k + j))) (sum_to-split (suc k) m f) none
    ∙ sum_to-same m (λ j. f (suc k + j)) (λ j. a (suc k + j) *ℤ b (n - suc j))
    (λ j p. ap (λ x. a (suc k + j) *ℤ x)
    (raised_at (suc k + j) (cut n b) (n + k) (omega arith) ∙ cut_in n b (n + k - (suc k + j)) (omega arith)
    ∙ ap b (omega arith)))

-- ---- products of four coefficients, of words that stand for c and d
pub short_below : (k m : ℕ) (x y : ℕ → ℕ) (c d : ℕ → ℤ) → suc k + m ≡ 4 → ((j : ℕ) → j < 4 → word (pos (x j)) ≡ word (c j)) →
    ((j : ℕ) → j < 4 → word (pos (y j)) ≡ word (d j)) → wrapped (suc k) x (λ j. y (k - j)) ≡ word (linear 4 c d k)
short_below k m x y c d e f g =
    wrapped_is (suc k) x (λ j. y (k - j)) ∙ ap word (sym (place_below 4 k m (λ j. pos (x j)) (λ j. pos (y j)) e))
    ∙ linear-word 4 (λ j. pos (x j)) (λ j. pos (y j)) c d k f g

pub short_from : (k m : ℕ) (x y : ℕ → ℕ) (c d : ℕ → ℤ) → suc k + m ≡ 4 → ((j : ℕ) → j < 4 → word (pos (x j)) ≡ word (c j)) →
    ((j : ℕ) → j < 4 → word (pos (y j)) ≡ word (d j)) →
    wrapped m (λ j. x (suc k + j)) (λ j. y (4 - suc j)) ≡ word (linear 4 c d (4 + k))
short_from k m x y c d e f g =
    wrapped_is m (λ j. x (suc k + j)) (λ j. y (4 - suc j))
    ∙ ap word (sym (place_from 4 k m (λ j. pos (x j)) (λ j. pos (y j)) e))
    ∙ linear-word 4 (λ j. pos (x j)) (λ j. pos (y j)) c d (4 + k) f g

-- the last of eight places is nothing
pub short_last : (c d : ℕ → ℤ) → linear 4 c d 7 ≡ pos 0
short_last c d = place_from 4 3 0 c d refl ∙ sum_to-zero (λ j. c (4 + j) *ℤ d (4 - suc j))

-- the middle places, as the code makes them
fits : (x : ℕ) (z : ℤ) → x ≡ word z → x < 2 ^ 64
fits x z e = omega (arith, e, word-lt z)

pub middle_place : (s m p r : ℕ) (e f g k : ℤ) → s ≡ word e → m ≡ word f → p ≡ word g → r ≡ word k →
    (s + ((m + (2 ^ 64 - p)) % 2 ^ 64 + (2 ^ 64 - r)) % 2 ^ 64) % 2 ^ 64 ≡ word (e +ℤ ((f -ℤ g) -ℤ k))
middle_place s m p r e f g k is_s is_m is_p is_r =
    word_joined s m p r (fits p g is_p) (fits r k is_r) ∙ word_quarter s m p r e f g k is_s is_m is_p is_r

none_before : (e x : ℤ) → e ≡ pos 0 → x ≡ e +ℤ x
none_before e x p = omega (arith, ints)

pub last_middle : (m p r : ℕ) (e f g k : ℤ) → e ≡ pos 0 → m ≡ word f → p ≡ word g → r ≡ word k →
    ((m + (2 ^ 64 - p)) % 2 ^ 64 + (2 ^ 64 - r)) % 2 ^ 64 ≡ word (e +ℤ ((f -ℤ g) -ℤ k))
last_middle m p r e f g k none is_m is_p is_r =
    let x : ℕ = (m + (2 ^ 64 - p)) % 2 ^ 64 in
    let y : ℤ = pos m -ℤ pos p in
    let is_x : x ≡ word y = word-wrapping_sub m p (pos m) (fits p g is_p) refl in
    word-wrapping_sub x r y (fits r k is_r) (word_again x y is_x)
    ∙ word-sub y (f -ℤ g) (pos r) k (word-sub (pos m) f (pos p) g (word_again m f is_m) (word_again p g is_p)) (word_again r k is_r)
    ∙ ap word (none_before e ((f -ℤ g) -ℤ k) none)

nothing_after : (x f g k : ℤ) → f ≡ pos 0 → g ≡ pos 0 → k ≡ pos 0 → x ≡ x +ℤ ((f -ℤ g) -ℤ k)
nothing_after x f g k a b c = omega (arith, ints)

pub first_alone : (q : ℕ) (e f g k : ℤ) → q ≡ word e → f ≡ pos 0 → g ≡ pos 0 → k ≡ pos 0 → q ≡ word (e +ℤ ((f -ℤ g) -ℤ k))
first_alone q e f g k is_q a b c = is_q ∙ ap word (nothing_after e f g k a b c)

-- the word of a sum of two words
pub sum_word : (u v : ℕ) → word (pos ((u + v) % 2 ^ 64)) ≡ word (pos u +ℤ pos v)
sum_word u v = word_again ((u + v) % 2 ^ 64) (pos u +ℤ pos v) (sym (word_of (u + v)))

pub word_none : 0 ≡ word (pos 0)
unfolding word
word_none = refl
