-- Rows side by side: the product at the end of a row is the sum over the rows, the points of rows are those of all numbers, and a
-- product is a sum over a window.
use Rattle.std.proofs.Common.{◌≡◌, ℕ, zero, suc, ℤ, neg_ℤ, ◌+ℤ◌, ◌*ℤ◌, ◌+◌, ◌-◌, ◌*◌, ◌/◌, ◌^◌, ◌<◌, ◌≤◌, refl, sym, ◌∙◌, ap, arith}
use Rattle.std.proofs.lemmas.Int.{ints}
use Rattle.std.proofs.lemmas.Nat.{mul-add-lt}
use Rattle.rx_laws.specs.Sum.{sum_to}
use Rattle.rx_laws.proofs.Ring.{mul_neg, mul_add, mul_assoc_ℤ, mul_comm_ℤ}
use Rattle.rx_laws.proofs.Sums.{sum_to-same, sum_to-neg, sum_to-add, sum_to-mul}
use Rattle.rx_ring.specs.Polynomial.{turned, turns, product}
use Rattle.rx_ring.specs.Blocks.{wrapped, block_product, down, points, blocks}
use Rattle.rx_ring.proofs.Polynomial.{by_turn, turned_low, turned_high, turned_same}
use Rattle.rx_ring.proofs.Rotation.{turns-add}
use Rattle.rx_ring.proofs.Blocks.{wrapped_low, down-at}
use Rattle.rx_ring.proofs.Levels.{by_half, points_low, points_high}
use Rattle.rx_ring.proofs.Interleaved.{turned_turns, product_blocks}
use Rattle.rx_ring.proofs.BlockSums.{points_same}
use Rattle.rx_points.specs.Windows.{window_sum}
use Rattle.rx_points.specs.Rows.{reversed, row_end}

-- ---- a product at the end of a row
pub rows_summed : (r rows : ℕ) (a b : ℕ → ℤ) (t : ℕ) → 0 < rows → t < r →
    product (rows * r) a b (row_end rows t) ≡ sum_to rows (λ w. product r (blocks rows a w) (blocks rows b (rows - 1 - w)) t)
unfolding block_product
rows_summed r rows a b t some q =
    product_blocks r rows a b (rows - 1) t (omega arith) q
    ∙ sum_to-same rows (λ m. product r (blocks rows a m) (wrapped r rows 1 (blocks rows b) m (rows - 1)) t)
    (λ w. product r (blocks rows a w) (blocks rows b (rows - 1 - w)) t)
    (λ w l. ap (λ f. product r (blocks rows a w) f t) (wrapped_low r rows 1 (blocks rows b) w (rows - 1) (omega arith)))

-- ---- a turn by s places of each row
turn_of_rows : (r rows : ℕ) (b : ℕ → ℤ) (w t : ℕ) → w < rows → t < r →
    turned (rows * r) b rows (t * rows + w) ≡ turned r (blocks rows b w) 1 t
unfolding blocks
turn_of_rows r rows b w zero p q =
    let place : 0 * rows + w + rows * r - rows ≡ (0 + r - 1) * rows + w = by_one (r - 1) (omega arith) in
    turned_high (rows * r) b rows (0 * rows + w) (omega arith) ∙ ap (λ k. neg_ℤ (b k)) place
    ∙ sym (turned_high r (blocks rows b w) 1 0 (omega arith))
  where
    by_one : (m : ℕ) → r ≡ m + 1 → 0 * rows + w + rows * r - rows ≡ (0 + r - 1) * rows + w
    by_one m e =
        let all : rows * r ≡ m * rows + rows = ap (λ k. rows * k) e ∙ omega arith in
        let less : 0 + r - 1 ≡ m = omega arith in
        let same : (0 + r - 1) * rows ≡ m * rows = ap (λ k. k * rows) less in
        omega (arith, all, same)
turn_of_rows r rows b w (suc t) p q =
    let more : suc t * rows ≡ t * rows + rows = omega arith in
    let less : suc t - 1 ≡ t = omega arith in
    let same : (suc t - 1) * rows ≡ t * rows = ap (λ k. k * rows) less in
    turned_low (rows * r) b rows (suc t * rows + w) (omega (arith, more)) ∙ ap b (omega (arith, more, same))
    ∙ sym (turned_low r (blocks rows b w) 1 (suc t) (omega arith))

pub turns_of_rows : (r rows : ℕ) (b : ℕ → ℤ) (s w t : ℕ) → w < rows → t < r →
    turns (rows * r) b (rows * s) (t * rows + w) ≡ turns r (blocks rows b w) s t
unfolding turns blocks
turns_of_rows r rows b zero w t p q = let none : rows * 0 ≡ 0 = omega arith in ap (λ k. turns (rows * r) b k (t * rows + w)) none
turns_of_rows r rows b (suc s) w t p q =
    let c : ℕ → ℤ = turns (rows * r) b (rows * s) in
    let more : rows * suc s ≡ rows * s + rows = omega arith in
    let room : rows ≤ rows * r = one_row (r - 1) (omega arith) in
    let place : t * rows + w < rows * r = omega (arith, mul-add-lt t rows w r q p) in
    ap (λ k. turns (rows * r) b k (t * rows + w)) more
    ∙ sym (ap (λ f. f (t * rows + w)) (turns-add (rows * r) b (rows * s) rows))
    ∙ sym (turned_turns (rows * r) c rows (t * rows + w) room place)
    ∙ turn_of_rows r rows c w t p q
    ∙ turned_same r (blocks rows c w) (turns r (blocks rows b w) s) 1 t (λ u v. turns_of_rows r rows b s w u p v) (omega arith) q
  where
    one_row : (m : ℕ) → r ≡ m + 1 → rows ≤ rows * r
    one_row m e = let all : rows * r ≡ m * rows + rows = ap (λ k. rows * k) e ∙ omega arith in omega (arith, all)

-- ---- levels of rows
rows_down : (r rows h s : ℕ) (x : ℕ → ℕ → ℤ) (j w t : ℕ) → w < rows → t < r →
    down (rows * r) h (rows * s) x j (t * rows + w) ≡ down r h s (λ k. blocks rows (x k) w) j t
unfolding blocks
rows_down r rows h s x j w t p q =
    down-at (rows * r) h (rows * s) x j (t * rows + w)
    ∙ ap (λ z. x j (t * rows + w) +ℤ z) (turns_of_rows r rows (x (h + j)) s w t p q)
    ∙ sym (down-at r h s (λ k. blocks rows (x k) w) j t)

half_even : (d e f : ℕ) → e ≡ 2 ^ suc d * f → e / 2 ≡ 2 ^ d * f
half_even d e f p =
    let two : 2 ^ suc d ≡ 2 * 2 ^ d = omega arith in
    let all : e ≡ 2 * (2 ^ d * f) = p ∙ ap (λ k. k * f) two ∙ omega arith in
    omega (arith, all)

-- the points of n numbers are row by row the points of the rows
pub rows_points : (r rows d e f g : ℕ) (x : ℕ → ℕ → ℤ) (p w t : ℕ) → e ≡ 2 ^ d * f → r ≡ 2 ^ d * g → p < 2 ^ d → w < rows → t < r →
    points (rows * r) d (rows * e) x p (t * rows + w) ≡ points r d e (λ j. blocks rows (x j) w) p t
unfolding points blocks
rows_points r rows zero e f g x p w t ex er l o q = refl
rows_points r rows (suc d) e f g x p w t ex er l o q =
    let two : 2 ^ suc d ≡ 2 * 2 ^ d = omega arith in
    let half : e / 2 ≡ 2 ^ d * f = half_even d e f ex in
    let twice : e ≡ 2 * (e / 2) = ex ∙ ap (λ k. k * f) two ∙ omega (arith, half) in
    let whole : rows * e / 2 ≡ rows * (e / 2) = halved (rows * e) (rows * (e / 2)) (ap (λ k. rows * k) twice ∙ omega arith) in
    let far : rows * e / 2 + rows * r ≡ rows * (e / 2 + r) = omega (arith, whole) in
    let even : r ≡ 2 ^ d * (2 * g) = er ∙ ap (λ k. k * g) two ∙ omega arith in
    let y : ℕ → ℕ → ℤ = λ j. blocks rows (x j) w in
    let level : (s f p : ℕ) → s ≡ 2 ^ d * f → p < 2 ^ d →
    points (rows * r) d (rows * s) (down (rows * r) (2 ^ d) (rows * s) x) p (t * rows + w) ≡ points r d s (down r (2 ^ d) s y) p t =
    λ s f p is l'. rows_points r rows d s f (2 * g) (down (rows * r) (2 ^ d) (rows * s) x) p w t is even l' o q
    ∙ points_same r d s (λ j. blocks rows (down (rows * r) (2 ^ d) (rows * s) x j) w) (down r (2 ^ d) s y) p t
    (λ k u _ v. rows_down r rows (2 ^ d) s x k w u o v) l' q in
    let sum : e / 2 + r ≡ 2 ^ d * (f + 2 * g) = omega (arith, half, even) in
    by_half p (2 ^ d)
    (λ n. ap (λ h. h (t * rows + w)) (points_low (rows * r) d (rows * e) x p n)
    ∙ ap (λ s. points (rows * r) d s (down (rows * r) (2 ^ d) s x) p (t * rows + w)) whole
    ∙ level (e / 2) f p half n
    ∙ sym (ap (λ h. h t) (points_low r d e y p n)))
    (λ n. let place : 2 ^ d + (p - 2 ^ d) ≡ p = omega arith in
    ap (λ k. points (rows * r) (suc d) (rows * e) x k (t * rows + w)) (sym place)
    ∙ ap (λ h. h (t * rows + w)) (points_high (rows * r) d (rows * e) x (p - 2 ^ d))
    ∙ ap (λ s. points (rows * r) d s (down (rows * r) (2 ^ d) s x) (p - 2 ^ d) (t * rows + w)) far
    ∙ level (e / 2 + r) (f + 2 * g) (p - 2 ^ d) sum (omega (arith, two))
    ∙ sym (ap (λ h. h t) (points_high r d e y (p - 2 ^ d))) ∙ ap (λ k. points r (suc d) e y k t) place)
  where
    halved : (a b : ℕ) → a ≡ 2 * b → a / 2 ≡ b
    halved a b e = omega (arith, e)

-- ---- a product as a sum over a window
-- what a turn of b is in terms of b reversed
turned_reversed : (n : ℕ) (b : ℕ → ℤ) (i k : ℕ) → i < n → k < n → turned n b (suc i) k ≡ neg_ℤ (turned n (reversed n b) k i)
turned_reversed n b i k p q = by_turn (suc i) k
    (λ l. turned_low n b (suc i) k l ∙ ap b (omega arith) ∙ twice (b (n - suc (i + n - k))) ∙ sym (ap neg_ℤ (turned_high n (reversed n b) k i l)))
    (λ l. turned_high n b (suc i) k l ∙ ap (λ x. neg_ℤ (b x)) (omega arith) ∙ sym (ap neg_ℤ (turned_low n (reversed n b) k i (omega arith))))
  where
    twice : (z : ℤ) → z ≡ neg_ℤ (neg_ℤ z)
    twice z = omega (arith, ints)

-- the sum over the window of c from place n - 1 - i on, where c holds the turns of b, but for multiples of m
pub window_is_product : (n : ℕ) (m : ℤ) (a b c over : ℕ → ℤ) (i : ℕ) → i < n →
    ((k : ℕ) → k < n → c (n - suc i + k) ≡ turned n b (suc i) k +ℤ m *ℤ over k) →
    window_sum n a c (n - suc i) ≡ neg_ℤ (product n a (reversed n b) i) +ℤ m *ℤ sum_to n (λ k. a k *ℤ over k)
unfolding window_sum product
window_is_product n m a b c over i p same =
    let f : ℕ → ℤ = λ k. a k *ℤ turned n (reversed n b) k i in
    sum_to-same n (λ k. a k *ℤ c (n - suc i + k)) (λ k. neg_ℤ (f k) +ℤ m *ℤ (a k *ℤ over k))
    (λ k q. ap (λ z. a k *ℤ z) (same k q ∙ ap (λ z. z +ℤ m *ℤ over k) (turned_reversed n b i k p q))
    ∙ mul_add (a k) (neg_ℤ (turned n (reversed n b) k i)) (m *ℤ over k)
    ∙ ap (λ z. z +ℤ a k *ℤ (m *ℤ over k)) (mul_neg (a k) (turned n (reversed n b) k i))
    ∙ ap (λ z. neg_ℤ (f k) +ℤ z) (swapped (a k) m (over k)))
    ∙ sum_to-add n (λ k. neg_ℤ (f k)) (λ k. m *ℤ (a k *ℤ over k))
    ∙ ap (λ z. z +ℤ sum_to n (λ k. m *ℤ (a k *ℤ over k))) (sum_to-neg n f)
    ∙ ap (λ z. neg_ℤ (sum_to n f) +ℤ z) (sum_to-mul n m (λ k. a k *ℤ over k))
  where
    swapped : (a m o : ℤ) → a *ℤ (m *ℤ o) ≡ m *ℤ (a *ℤ o)
    swapped a m o = sym (mul_assoc_ℤ a m o) ∙ ap (λ x. x *ℤ o) (mul_comm_ℤ a m) ∙ mul_assoc_ℤ m a o
