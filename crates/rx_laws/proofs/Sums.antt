-- The laws of finite sums.
use Rattle.std.proofs.Common.{◌≡◌, ℕ, zero, suc, ℤ, pos, ◌+ℤ◌, ◌*ℤ◌, ◌-ℤ◌, ◌+◌, ◌-◌, ◌<◌, refl, sym, ◌∙◌, ap, arith, ◌*◌}
use Rattle.std.proofs.lemmas.Int.{ints}
use Rattle.rx_laws.specs.Sum.{sum_to}
use Rattle.rx_laws.proofs.Ring.{mul_add, mul_comm_ℤ}
use lib.IntN.{neg_ℤ}

pub sum_to-zero : (f : ℕ → ℤ) → sum_to 0 f ≡ pos 0
unfolding sum_to
sum_to-zero f = refl

pub sum_to-suc : (n : ℕ) (f : ℕ → ℤ) → sum_to (suc n) f ≡ sum_to n f +ℤ f n
unfolding sum_to
sum_to-suc n f = refl

-- congruence
pub sum_to-same : (n : ℕ) (f g : ℕ → ℤ) → ((j : ℕ) → j < n → f j ≡ g j) → sum_to n f ≡ sum_to n g
unfolding sum_to
sum_to-same zero f g h = refl
sum_to-same (suc n) f g h =
    let e : sum_to n f ≡ sum_to n g = sum_to-same n f g (λ j p. h j (omega arith)) in
    let k : f n ≡ g n = h n (omega arith) in
    ap (λ x. x +ℤ f n) e ∙ ap (λ x. sum_to n g +ℤ x) k

pub sum_to-nothing : (n : ℕ) → sum_to n (λ j. pos 0) ≡ pos 0
unfolding sum_to
sum_to-nothing zero = refl
sum_to-nothing (suc n) = ap (λ x. x +ℤ pos 0) (sum_to-nothing n)

-- linear
pub sum_to-add : (n : ℕ) (f g : ℕ → ℤ) → sum_to n (λ j. f j +ℤ g j) ≡ sum_to n f +ℤ sum_to n g
unfolding sum_to
sum_to-add zero f g = refl
sum_to-add (suc n) f g = omega (arith, ints, sum_to-add n f g)

pub sum_to-neg : (n : ℕ) (f : ℕ → ℤ) → sum_to n (λ j. neg_ℤ (f j)) ≡ neg_ℤ (sum_to n f)
unfolding sum_to
sum_to-neg zero f = refl
sum_to-neg (suc n) f = omega (arith, ints, sum_to-neg n f)

pub sum_to-sub : (n : ℕ) (f g : ℕ → ℤ) → sum_to n (λ j. f j -ℤ g j) ≡ sum_to n f -ℤ sum_to n g
sum_to-sub n f g = sum_to-add n f (λ j. neg_ℤ (g j)) ∙ ap (λ x. sum_to n f +ℤ x) (sum_to-neg n g)

pub sum_to-mul : (n : ℕ) (c : ℤ) (f : ℕ → ℤ) → sum_to n (λ j. c *ℤ f j) ≡ c *ℤ sum_to n f
unfolding sum_to
sum_to-mul zero c f = omega (arith, ints)
sum_to-mul (suc n) c f = ap (λ x. x +ℤ c *ℤ f n) (sum_to-mul n c f) ∙ sym (mul_add c (sum_to n f) (f n))

pub sum_to-mul_right : (n : ℕ) (c : ℤ) (f : ℕ → ℤ) → sum_to n (λ j. f j *ℤ c) ≡ sum_to n f *ℤ c
sum_to-mul_right n c f =
    sum_to-same n (λ j. f j *ℤ c) (λ j. c *ℤ f j) (λ j p. mul_comm_ℤ (f j) c)
    ∙ sum_to-mul n c f ∙ mul_comm_ℤ c (sum_to n f)

-- splitting
pub sum_to-split : (m n : ℕ) (f : ℕ → ℤ) → sum_to (m + n) f ≡ sum_to m f +ℤ sum_to n (λ j. f (m + j))
unfolding sum_to
sum_to-split m zero f = let e : m + 0 ≡ m = omega arith in rw e (omega (arith, ints))
sum_to-split m (suc n) f =
    let e : m + suc n ≡ suc (m + n) = omega arith in rw e (omega (arith, ints, sum_to-split m n f))

-- the first term
pub sum_to-first : (n : ℕ) (f : ℕ → ℤ) → sum_to (suc n) f ≡ f 0 +ℤ sum_to n (λ j. f (suc j))
unfolding sum_to
sum_to-first zero f = omega (arith, ints)
sum_to-first (suc n) f = omega (arith, ints, sum_to-first n f)

-- reversal
pub sum_to-reverse : (n : ℕ) (f : ℕ → ℤ) → sum_to n f ≡ sum_to n (λ j. f (n - suc j))
unfolding sum_to
sum_to-reverse zero f = refl
sum_to-reverse (suc n) f =
    let e : sum_to n (λ j. f (suc j)) ≡ sum_to n (λ j. f (suc (n - suc j))) = sum_to-reverse n (λ j. f (suc j)) in
    let k : sum_to n (λ j. f (suc (n - suc j))) ≡ sum_to n (λ j. f (suc n - suc j)) =
    sum_to-same n (λ j. f (suc (n - suc j))) (λ j. f (suc n - suc j)) (λ j p. ap f (omega arith)) in
    let z : f 0 ≡ f (suc n - suc n) = ap f (omega arith) in
    omega (arith, ints, sum_to-first n f)

-- exchange
pub sum_to-swap : (m n : ℕ) (f : ℕ → ℕ → ℤ) →
    sum_to m (λ i. sum_to n (λ j. f i j)) ≡ sum_to n (λ j. sum_to m (λ i. f i j))
unfolding sum_to
sum_to-swap zero n f = sym (sum_to-nothing n)
sum_to-swap (suc m) n f =
    ap (λ x. x +ℤ sum_to n (λ j. f m j)) (sum_to-swap m n f)
    ∙ sym (sum_to-add n (λ j. sum_to m (λ i. f i j)) (λ j. f m j))

-- a sum over k blocks of n places
pub sum_to-blocks : (k n : ℕ) (f : ℕ → ℤ) → sum_to (k * n) f ≡ sum_to k (λ j. sum_to n (λ i. f (j * n + i)))
unfolding sum_to
sum_to-blocks zero n f = let e : 0 * n ≡ 0 = omega arith in ap (λ m. sum_to m f) e
sum_to-blocks (suc k) n f =
    let e : suc k * n ≡ k * n + n = omega arith in
    ap (λ m. sum_to m f) e ∙ sum_to-split (k * n) n f ∙ ap (λ x. x +ℤ sum_to n (λ i. f (k * n + i))) (sum_to-blocks k n f)
