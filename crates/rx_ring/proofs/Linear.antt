-- Plain products: how one of polynomials of 2 * h coefficients comes from three of polynomials of h coefficients (Karatsuba),
-- and how the product modulo X ^ n + 1 comes from a plain one.
use Rattle.std.proofs.Common.{◌≡◌, ℕ, ℤ, pos, ◌+ℤ◌, ◌-ℤ◌, ◌*ℤ◌, ◌+◌, ◌-◌, ◌<◌, ◌≤◌, sym, ◌∙◌, ap, arith, cond}
use Rattle.std.proofs.lemmas.Int.{ints}
use Rattle.std.proofs.lemmas.Bool.{le-leb, lt-leb, lt-ltb, le-ltb}
use Rattle.rx_laws.specs.Sum.{sum_to}
use Rattle.rx_laws.specs.Torus.{word}
use Rattle.rx_laws.proofs.Ring.{mul_add, add_mul, mul_sub, add_zero_ℤ}
use Rattle.rx_laws.proofs.Sums.{sum_to-same, sum_to-add, sum_to-sub, sum_to-split, sum_to-nothing}
use Rattle.rx_laws.proofs.Lwe.{sum_to-word}
use Rattle.rx_laws.proofs.Torus.{word-mul_both}
use Rattle.rx_ring.specs.Polynomial.{turned, product}
use Rattle.rx_ring.specs.Linear.{raised, cut, times, linear, high_half, half_sum, middle}
use Rattle.rx_ring.proofs.Polynomial.{by_turn, turned_low, turned_high}
use lib.IntN.{neg_ℤ}

-- ---- sums of single numbers
two_left : (m q : ℤ) → (pos 0 +ℤ m) +ℤ q ≡ q +ℤ m
two_left m q = omega (arith, ints)

no_middle : (s p q : ℤ) → s ≡ pos 0 → p ≡ pos 0 → q ≡ pos 0 → (s -ℤ p) -ℤ q ≡ pos 0
no_middle s p q e f g = omega (arith, ints)

fold_term : (a t u v : ℤ) → t ≡ u -ℤ v → a *ℤ t ≡ a *ℤ u -ℤ a *ℤ v
fold_term a t u v e = ap (λ x. a *ℤ x) e ∙ mul_sub a u v

-- ---- raised and cut polynomials
pub raised_at : (t : ℕ) (f : ℕ → ℤ) (i : ℕ) → t ≤ i → raised t f i ≡ f (i - t)
unfolding raised
raised_at t f i p = ap (λ x. cond x (f (i - t)) (pos 0)) (le-leb t i p)

pub raised_none : (t : ℕ) (f : ℕ → ℤ) (i : ℕ) → i < t → raised t f i ≡ pos 0
unfolding raised
raised_none t f i p = ap (λ x. cond x (f (i - t)) (pos 0)) (lt-leb t i p)

pub cut_in : (n : ℕ) (b : ℕ → ℤ) (i : ℕ) → i < n → cut n b i ≡ b i
unfolding cut
cut_in n b i p = ap (λ x. cond x (b i) (pos 0)) (lt-ltb i n p)

pub cut_past : (n : ℕ) (b : ℕ → ℤ) (i : ℕ) → n ≤ i → cut n b i ≡ pos 0
unfolding cut
cut_past n b i p = ap (λ x. cond x (b i) (pos 0)) (le-ltb i n p)

raised_same : (t : ℕ) (f g : ℕ → ℤ) (i : ℕ) → ((k : ℕ) → f k ≡ g k) → raised t f i ≡ raised t g i
raised_same t f g i h = by_turn t i
    (λ l. raised_at t f i l ∙ h (i - t) ∙ sym (raised_at t g i l))
    (λ l. raised_none t f i l ∙ sym (raised_none t g i l))

raised-add : (t : ℕ) (f g : ℕ → ℤ) (i : ℕ) → raised t (λ k. f k +ℤ g k) i ≡ raised t f i +ℤ raised t g i
raised-add t f g i = by_turn t i
    (λ l. omega (arith, ints, raised_at t (λ k. f k +ℤ g k) i l, raised_at t f i l, raised_at t g i l))
    (λ l. omega (arith, ints, raised_none t (λ k. f k +ℤ g k) i l, raised_none t f i l, raised_none t g i l))

raised-mul : (t : ℕ) (c : ℤ) (f : ℕ → ℤ) (i : ℕ) → raised t (λ k. c *ℤ f k) i ≡ c *ℤ raised t f i
raised-mul t c f i = by_turn t i
    (λ l. raised_at t (λ k. c *ℤ f k) i l ∙ ap (λ x. c *ℤ x) (sym (raised_at t f i l)))
    (λ l. let z : pos 0 ≡ c *ℤ pos 0 = omega (arith, ints) in
    raised_none t (λ k. c *ℤ f k) i l ∙ z ∙ ap (λ x. c *ℤ x) (sym (raised_none t f i l)))

raised-sum : (t m : ℕ) (f : ℕ → ℕ → ℤ) (i : ℕ) → raised t (λ k. sum_to m (λ j. f j k)) i ≡ sum_to m (λ j. raised t (f j) i)
raised-sum t m f i = by_turn t i
    (λ l. raised_at t (λ k. sum_to m (λ j. f j k)) i l
    ∙ sum_to-same m (λ j. f j (i - t)) (λ j. raised t (f j) i) (λ j q. sym (raised_at t (f j) i l)))
    (λ l. raised_none t (λ k. sum_to m (λ j. f j k)) i l
    ∙ sym (sum_to-nothing m)
    ∙ sum_to-same m (λ j. pos 0) (λ j. raised t (f j) i) (λ j q. sym (raised_none t (f j) i l)))

raised_twice : (s t : ℕ) (f : ℕ → ℤ) (i : ℕ) → raised s (raised t f) i ≡ raised (s + t) f i
raised_twice s t f i = by_turn s i
    (λ l. raised_at s (raised t f) i l ∙ by_turn t (i - s)
    (λ r. raised_at t f (i - s) r ∙ ap f (omega arith) ∙ sym (raised_at (s + t) f i (omega arith)))
    (λ r. raised_none t f (i - s) r ∙ sym (raised_none (s + t) f i (omega arith))))
    (λ l. raised_none s (raised t f) i l ∙ sym (raised_none (s + t) f i (omega arith)))

cut-add : (n : ℕ) (a b : ℕ → ℤ) (i : ℕ) → cut n (λ k. a k +ℤ b k) i ≡ cut n a i +ℤ cut n b i
cut-add n a b i = by_turn n i
    (λ l. omega (arith, ints, cut_past n (λ k. a k +ℤ b k) i l, cut_past n a i l, cut_past n b i l))
    (λ l. omega (arith, ints, cut_in n (λ k. a k +ℤ b k) i l, cut_in n a i l, cut_in n b i l))

cut_split : (h k : ℕ) (b : ℕ → ℤ) (i : ℕ) → cut (h + k) b i ≡ cut h b i +ℤ raised h (cut k (λ j. b (h + j))) i
cut_split h k b i = by_turn h i
    (λ l.
    let low : cut h b i ≡ pos 0 = cut_past h b i l in
    let up : raised h (cut k (λ j. b (h + j))) i ≡ cut k (λ j. b (h + j)) (i - h) = raised_at h (cut k (λ j. b (h + j))) i l in
    let same : cut (h + k) b i ≡ cut k (λ j. b (h + j)) (i - h) =
    by_turn k (i - h)
    (λ r. cut_past (h + k) b i (omega arith) ∙ sym (cut_past k (λ j. b (h + j)) (i - h) r))
    (λ r. cut_in (h + k) b i (omega arith) ∙ ap b (omega arith) ∙ sym (cut_in k (λ j. b (h + j)) (i - h) r)) in
    omega (arith, ints))
    (λ l.
    let low : cut h b i ≡ b i = cut_in h b i l in
    let whole : cut (h + k) b i ≡ b i = cut_in (h + k) b i (omega arith) in
    let up : raised h (cut k (λ j. b (h + j))) i ≡ pos 0 = raised_none h (cut k (λ j. b (h + j))) i l in
    omega (arith, ints))

-- ---- products of the first m coefficients
times_same : (m : ℕ) (a : ℕ → ℤ) (f g : ℕ → ℤ) (i : ℕ) → ((k : ℕ) → f k ≡ g k) → times m a f i ≡ times m a g i
unfolding times
times_same m a f g i h =
    sum_to-same m (λ j. a j *ℤ raised j f i) (λ j. a j *ℤ raised j g i) (λ j _. ap (λ x. a j *ℤ x) (raised_same j f g i h))

times-add_left : (m : ℕ) (a b f : ℕ → ℤ) (i : ℕ) → times m (λ j. a j +ℤ b j) f i ≡ times m a f i +ℤ times m b f i
unfolding times
times-add_left m a b f i =
    sum_to-same m (λ j. (a j +ℤ b j) *ℤ raised j f i) (λ j. a j *ℤ raised j f i +ℤ b j *ℤ raised j f i)
    (λ j _. add_mul (a j) (b j) (raised j f i))
    ∙ sum_to-add m (λ j. a j *ℤ raised j f i) (λ j. b j *ℤ raised j f i)

times-add_right : (m : ℕ) (a f g : ℕ → ℤ) (i : ℕ) → times m a (λ k. f k +ℤ g k) i ≡ times m a f i +ℤ times m a g i
unfolding times
times-add_right m a f g i =
    sum_to-same m (λ j. a j *ℤ raised j (λ k. f k +ℤ g k) i) (λ j. a j *ℤ raised j f i +ℤ a j *ℤ raised j g i)
    (λ j _. ap (λ x. a j *ℤ x) (raised-add j f g i) ∙ mul_add (a j) (raised j f i) (raised j g i))
    ∙ sum_to-add m (λ j. a j *ℤ raised j f i) (λ j. a j *ℤ raised j g i)

times_split : (h k : ℕ) (a f : ℕ → ℤ) (i : ℕ) → times (h + k) a f i ≡ times h a f i +ℤ raised h (times k (λ j. a (h + j)) f) i
unfolding times
times_split h k a f i =
    sum_to-split h k (λ j. a j *ℤ raised j f i)
    ∙ ap (λ x. sum_to h (λ j. a j *ℤ raised j f i) +ℤ x)
    (sum_to-same k (λ j. a (h + j) *ℤ raised (h + j) f i) (λ j. raised h (λ x. a (h + j) *ℤ raised j f x) i)
    (λ j _. ap (λ x. a (h + j) *ℤ x) (sym (raised_twice h j f i)) ∙ sym (raised-mul h (a (h + j)) (raised j f) i))
    ∙ sym (raised-sum h k (λ j x. a (h + j) *ℤ raised j f x) i))

times_raised : (m h : ℕ) (a f : ℕ → ℤ) (i : ℕ) → times m a (raised h f) i ≡ raised h (times m a f) i
unfolding times
times_raised m h a f i =
    sum_to-same m (λ j. a j *ℤ raised j (raised h f) i) (λ j. raised h (λ x. a j *ℤ raised j f x) i)
    (λ j _.
    let e : j + h ≡ h + j = omega arith in
    ap (λ x. a j *ℤ x) (raised_twice j h f i ∙ ap (λ t. raised t f i) e ∙ sym (raised_twice h j f i))
    ∙ sym (raised-mul h (a j) (raised j f) i))
    ∙ sym (raised-sum h m (λ j x. a j *ℤ raised j f x) i)

-- ---- the plain product of halves
pub linear_past : (n : ℕ) (a b : ℕ → ℤ) (i : ℕ) → n + n ≤ i → linear n a b i ≡ pos 0
unfolding times linear
linear_past n a b i p =
    sum_to-same n (λ j. a j *ℤ raised j (cut n b) i) (λ j. pos 0)
    (λ j q.
    let z : a j *ℤ pos 0 ≡ pos 0 = omega (arith, ints) in
    ap (λ x. a j *ℤ x) (raised_at j (cut n b) i (omega arith) ∙ cut_past n b (i - j) (omega arith)) ∙ z)
    ∙ sum_to-nothing n

times_cut : (m h k : ℕ) (a b : ℕ → ℤ) (i : ℕ) →
    times m a (cut (h + k) b) i ≡ times m a (cut h b) i +ℤ raised h (times m a (cut k (λ j. b (h + j)))) i
times_cut m h k a b i =
    times_same m a (cut (h + k) b) (λ x. cut h b x +ℤ raised h (cut k (λ j. b (h + j))) x) i (cut_split h k b)
    ∙ times-add_right m a (cut h b) (raised h (cut k (λ j. b (h + j)))) i
    ∙ ap (λ x. times m a (cut h b) i +ℤ x) (times_raised m h a (cut k (λ j. b (h + j))) i)

-- of the four products of halves, the two mixed ones meet at the same places
halves : (h : ℕ) (a b : ℕ → ℤ) (i : ℕ) → linear (h + h) a b i ≡
    ((linear h a b i +ℤ raised h (linear h a (high_half h b)) i) +ℤ raised h (linear h (high_half h a) b) i)
    +ℤ raised (h + h) (linear h (high_half h a) (high_half h b)) i
unfolding linear
halves h a b i =
    let c : ℕ → ℤ = high_half h a in
    let d : ℕ → ℤ = high_half h b in
    let whole : times (h + h) a (cut (h + h) b) i ≡ times h a (cut (h + h) b) i +ℤ raised h (times h c (cut (h + h) b)) i =
    times_split h h a (cut (h + h) b) i in
    let low : times h a (cut (h + h) b) i ≡ times h a (cut h b) i +ℤ raised h (times h a (cut h d)) i = times_cut h h h a b i in
    let high : raised h (times h c (cut (h + h) b)) i ≡ raised h (times h c (cut h b)) i +ℤ raised (h + h) (times h c (cut h d)) i =
    raised_same h (times h c (cut (h + h) b)) (λ k. times h c (cut h b) k +ℤ raised h (times h c (cut h d)) k) i
    (λ k. times_cut h h h c b k)
    ∙ raised-add h (times h c (cut h b)) (raised h (times h c (cut h d))) i
    ∙ ap (λ x. raised h (times h c (cut h b)) i +ℤ x) (raised_twice h h (times h c (cut h d)) i) in
    omega (arith, ints)

-- the product of the sums has all four
product_of_sums : (h : ℕ) (a b : ℕ → ℤ) (k : ℕ) → linear h (half_sum h a) (half_sum h b) k ≡
    (linear h a b k +ℤ linear h (high_half h a) b k)
    +ℤ (linear h a (high_half h b) k +ℤ linear h (high_half h a) (high_half h b) k)
unfolding linear
product_of_sums h a b k =
    let c : ℕ → ℤ = high_half h a in
    let d : ℕ → ℤ = high_half h b in
    let s : ℕ → ℤ = half_sum h a in
    times_same h s (cut h (half_sum h b)) (λ x. cut h b x +ℤ cut h d x) k (cut-add h b d)
    ∙ times-add_right h s (cut h b) (cut h d) k
    ∙ ap (λ x. x +ℤ times h s (cut h d) k) (times-add_left h a c (cut h b) k)
    ∙ ap (λ x. (times h a (cut h b) k +ℤ times h c (cut h b) k) +ℤ x) (times-add_left h a c (cut h d) k)

-- Karatsuba: the middle, h places up, and the product of the second halves, 2 * h places up
pub karatsuba : (h : ℕ) (a b : ℕ → ℤ) (i : ℕ) → linear (h + h) a b i ≡
    (linear h a b i +ℤ raised h (middle h a b) i) +ℤ raised (h + h) (linear h (high_half h a) (high_half h b)) i
karatsuba h a b i =
    let c : ℕ → ℤ = high_half h a in
    let d : ℕ → ℤ = high_half h b in
    let mixed : (k : ℕ) → middle h a b k ≡ linear h a d k +ℤ linear h c b k = λ k. omega (arith, ints, product_of_sums h a b k) in
    let up : raised h (middle h a b) i ≡ raised h (linear h a d) i +ℤ raised h (linear h c b) i =
    raised_same h (middle h a b) (λ k. linear h a d k +ℤ linear h c b k) i mixed ∙ raised-add h (linear h a d) (linear h c b) i in
    omega (arith, ints, halves h a b i)

-- the same, quarter by quarter
pub quarter_0 : (h : ℕ) (a b : ℕ → ℤ) (i : ℕ) → i < h → linear (h + h) a b i ≡ linear h a b i
quarter_0 h a b i p =
    let q : ℕ → ℤ = linear h (high_half h a) (high_half h b) in
    omega (arith, ints, karatsuba h a b i, raised_none h (middle h a b) i p, raised_none (h + h) q i (omega arith))

pub quarter_1 : (h : ℕ) (a b : ℕ → ℤ) (i : ℕ) → i < h → linear (h + h) a b (h + i) ≡ linear h a b (h + i) +ℤ middle h a b i
quarter_1 h a b i p =
    let q : ℕ → ℤ = linear h (high_half h a) (high_half h b) in
    let up : raised h (middle h a b) (h + i) ≡ middle h a b i =
    raised_at h (middle h a b) (h + i) (omega arith) ∙ ap (middle h a b) (omega arith) in
    let none : raised (h + h) q (h + i) ≡ pos 0 = raised_none (h + h) q (h + i) (omega arith) in
    karatsuba h a b (h + i) ∙ ap (λ x. (linear h a b (h + i) +ℤ x) +ℤ raised (h + h) q (h + i)) up
    ∙ ap (λ x. (linear h a b (h + i) +ℤ middle h a b i) +ℤ x) none ∙ add_zero_ℤ (linear h a b (h + i) +ℤ middle h a b i)

pub quarter_2 : (h : ℕ) (a b : ℕ → ℤ) (i : ℕ) → i < h →
    linear (h + h) a b (h + h + i) ≡ linear h (high_half h a) (high_half h b) i +ℤ middle h a b (h + i)
quarter_2 h a b i p =
    let q : ℕ → ℤ = linear h (high_half h a) (high_half h b) in
    let m : ℤ = middle h a b (h + i) in
    let low : linear h a b (h + h + i) ≡ pos 0 = linear_past h a b (h + h + i) (omega arith) in
    let up : raised h (middle h a b) (h + h + i) ≡ m =
    raised_at h (middle h a b) (h + h + i) (omega arith) ∙ ap (middle h a b) (omega arith) in
    let high : raised (h + h) q (h + h + i) ≡ q i = raised_at (h + h) q (h + h + i) (omega arith) ∙ ap q (omega arith) in
    let sum : (pos 0 +ℤ m) +ℤ q i ≡ q i +ℤ m = two_left m (q i) in
    karatsuba h a b (h + h + i)
    ∙ ap (λ x. (x +ℤ raised h (middle h a b) (h + h + i)) +ℤ raised (h + h) q (h + h + i)) low
    ∙ ap (λ x. (pos 0 +ℤ x) +ℤ raised (h + h) q (h + h + i)) up
    ∙ ap (λ x. (pos 0 +ℤ m) +ℤ x) high
    ∙ sum

pub quarter_3 : (h : ℕ) (a b : ℕ → ℤ) (i : ℕ) → i < h →
    linear (h + h) a b (h + h + (h + i)) ≡ linear h (high_half h a) (high_half h b) (h + i)
quarter_3 h a b i p =
    let k : ℕ = h + h + (h + i) in
    let q : ℕ → ℤ = linear h (high_half h a) (high_half h b) in
    let s : ℕ → ℤ = linear h (half_sum h a) (half_sum h b) in
    let low : linear h a b k ≡ pos 0 = linear_past h a b k (omega arith) in
    let past : h + h ≤ k - h = omega arith in
    let none : middle h a b (k - h) ≡ pos 0 =
    no_middle (s (k - h)) (linear h a b (k - h)) (q (k - h))
    (linear_past h (half_sum h a) (half_sum h b) (k - h) past) (linear_past h a b (k - h) past)
    (linear_past h (high_half h a) (high_half h b) (k - h) past) in
    let up : raised h (middle h a b) k ≡ pos 0 = raised_at h (middle h a b) k (omega arith) ∙ none in
    let high : raised (h + h) q k ≡ q (h + i) = raised_at (h + h) q k (omega arith) ∙ ap q (omega arith) in
    karatsuba h a b k
    ∙ ap (λ x. (x +ℤ raised h (middle h a b) k) +ℤ raised (h + h) q k) low
    ∙ ap (λ x. (pos 0 +ℤ x) +ℤ raised (h + h) q k) up
    ∙ ap (λ x. (pos 0 +ℤ pos 0) +ℤ x) high
    ∙ two_left (pos 0) (q (h + i)) ∙ add_zero_ℤ (q (h + i))

-- ---- the product modulo X ^ n + 1
pub folded : (n : ℕ) (a b : ℕ → ℤ) (i : ℕ) → i < n → product n a b i ≡ linear n a b i -ℤ linear n a b (n + i)
unfolding product linear times
folded n a b i p =
    let f : ℕ → ℤ = λ j. a j *ℤ raised j (cut n b) i in
    let g : ℕ → ℤ = λ j. a j *ℤ raised j (cut n b) (n + i) in
    sum_to-same n (λ j. a j *ℤ turned n b j i) (λ j. f j -ℤ g j) (λ j q. by_turn j i
    (λ l.
    let t : turned n b j i ≡ b (i - j) = turned_low n b j i l in
    let u : raised j (cut n b) i ≡ b (i - j) = raised_at j (cut n b) i l ∙ cut_in n b (i - j) (omega arith) in
    let v : raised j (cut n b) (n + i) ≡ pos 0 =
    raised_at j (cut n b) (n + i) (omega arith) ∙ cut_past n b (n + i - j) (omega arith) in
    fold_term (a j) (turned n b j i) (raised j (cut n b) i) (raised j (cut n b) (n + i))
    (omega (arith, ints)))
    (λ l.
    let t : turned n b j i ≡ neg_ℤ (b (i + n - j)) = turned_high n b j i l in
    let e : n + i - j ≡ i + n - j = omega arith in
    let u : raised j (cut n b) i ≡ pos 0 = raised_none j (cut n b) i l in
    let v : raised j (cut n b) (n + i) ≡ b (i + n - j) =
    raised_at j (cut n b) (n + i) (omega arith) ∙ cut_in n b (n + i - j) (omega arith) ∙ ap b e in
    fold_term (a j) (turned n b j i) (raised j (cut n b) i) (raised j (cut n b) (n + i))
    (omega (arith, ints))))
    ∙ sum_to-sub n f g

-- which of its quarters each of the three products goes to, with which sign
pub folded_low : (h : ℕ) (a b : ℕ → ℤ) (i : ℕ) → i < h → product (h + h) a b i ≡
    (linear h a b i +ℤ linear h a b (h + i)
    +ℤ (linear h (high_half h a) (high_half h b) (h + i) -ℤ linear h (high_half h a) (high_half h b) i))
    -ℤ linear h (half_sum h a) (half_sum h b) (h + i)
folded_low h a b i p =
    omega (arith, ints, folded (h + h) a b i (omega arith), quarter_0 h a b i p, quarter_2 h a b i p)

pub folded_high : (h : ℕ) (a b : ℕ → ℤ) (i : ℕ) → i < h → product (h + h) a b (h + i) ≡
    ((linear h a b (h + i) -ℤ linear h a b i)
    -ℤ (linear h (high_half h a) (high_half h b) i +ℤ linear h (high_half h a) (high_half h b) (h + i)))
    +ℤ linear h (half_sum h a) (half_sum h b) i
folded_high h a b i p =
    omega (arith, ints, folded (h + h) a b (h + i) (omega arith), quarter_1 h a b i p, quarter_3 h a b i p)

-- ---- plain products modulo 2 ^ 64 depend on words alone
raised-word : (t : ℕ) (f g : ℕ → ℤ) (i : ℕ) → ((k : ℕ) → word (f k) ≡ word (g k)) → word (raised t f i) ≡ word (raised t g i)
raised-word t f g i h = by_turn t i
    (λ l. ap word (raised_at t f i l) ∙ h (i - t) ∙ ap word (sym (raised_at t g i l)))
    (λ l. ap word (raised_none t f i l ∙ sym (raised_none t g i l)))

cut-word : (n : ℕ) (a b : ℕ → ℤ) (i : ℕ) → ((k : ℕ) → k < n → word (a k) ≡ word (b k)) → word (cut n a i) ≡ word (cut n b i)
cut-word n a b i h = by_turn n i
    (λ l. ap word (cut_past n a i l ∙ sym (cut_past n b i l)))
    (λ l. ap word (cut_in n a i l) ∙ h i l ∙ ap word (sym (cut_in n b i l)))

pub linear-word : (n : ℕ) (a b c d : ℕ → ℤ) (i : ℕ) → ((k : ℕ) → k < n → word (a k) ≡ word (c k)) →
    ((k : ℕ) → k < n → word (b k) ≡ word (d k)) → word (linear n a b i) ≡ word (linear n c d i)
unfolding linear times
linear-word n a b c d i h k =
    sum_to-word n (λ j. a j *ℤ raised j (cut n b) i) (λ j. c j *ℤ raised j (cut n d) i)
    (λ j q. word-mul_both (a j) (raised j (cut n b) i) (c j) (raised j (cut n d) i) (h j q)
    (raised-word j (cut n b) (cut n d) i (λ x. cut-word n b d x k)))
