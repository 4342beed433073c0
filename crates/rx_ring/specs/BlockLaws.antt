-- The laws of elements modulo Z ^ k - Y ^ e and of their points, as a contract can name them.
use Rattle.std.specs.Prelude.{ℕ, suc, ℤ, pos, ◌+ℤ◌, ◌*ℤ◌, ◌+◌, ◌-◌, ◌*◌, ◌^◌, ◌<◌, ◌≤◌, ◌≡◌}
use Rattle.std.specs.Int.RustNames.{unsigned_abs}
use Rattle.rx_laws.specs.Sum.{sum_to}
use Rattle.rx_ring.specs.Polynomial.{product}
use Rattle.rx_ring.specs.Recovery.{pointwise, ArePoints, AreHigh, Recovers}
use Rattle.rx_ring.specs.Limbs.{low_part, high_part}
use Rattle.rx_ring.specs.Blocks.{block_product, down, up, points, from_points}
use Rattle.rx_ring.specs.Blocks.{point_products, summed_products, blocks, both, Within}

-- One level: up after down doubles, and each of the two ways down takes products modulo
-- Z ^ (2 * h) - Y ^ (2 * s) to products. All d levels: from products at the points come 2 ^ d times the
-- product. From both start nodes: 2 ^ suc d times the sum of products modulo X ^ (2 ^ d * r) + 1, of which
-- coefficient t * 2 ^ d + j is place t of block j.
pub record BlockLaws : Type 0 where
  pub doubles : (r h s : ℕ) (a : ℕ → ℕ → ℤ) (j i : ℕ) → s ≤ 2 * r → j < 2 * h → i < r →
      up r h s (down r h s a) (down r h (s + r) a) j i ≡ pos 2 *ℤ a j i
  pub near : (r h s : ℕ) (a b : ℕ → ℕ → ℤ) (j i : ℕ) → j < h → i < r →
      down r h s (block_product r (2 * h) (2 * s) a b) j i
      ≡ block_product r h s (down r h s a) (down r h s b) j i
  pub away : (r h s : ℕ) (a b : ℕ → ℕ → ℤ) (j i : ℕ) → j < h → i < r →
      down r h (s + r) (block_product r (2 * h) (2 * s) a b) j i
      ≡ block_product r h (s + r) (down r h (s + r) a) (down r h (s + r) b) j i
  pub levels : (r d e f g : ℕ) (a b : ℕ → ℕ → ℤ) → e ≡ 2 ^ d * f → r ≡ 2 ^ d * g → e ≤ 2 * r →
      (j i : ℕ) → j < 2 ^ d → i < r →
      from_points r d e (point_products r d e a b) j i ≡ pos (2 ^ d) *ℤ block_product r (2 ^ d) e a b j i
  pub interleaved : (r k : ℕ) (a b : ℕ → ℤ) (j t : ℕ) → j < k → t < r →
      product (k * r) a b (t * k + j) ≡ block_product r k 1 (blocks k a) (blocks k b) j t
  pub whole : (r d g n : ℕ) (a b : ℕ → ℕ → ℤ) (j t : ℕ) → r ≡ 2 ^ d * g → j < 2 ^ d → t < r →
      both r d (summed_products r d 0 n a b) (summed_products r d r n a b) j t
      ≡ pos (2 ^ suc d) *ℤ sum_to n (λ w. product (2 ^ d * r) (a w) (b w) (t * 2 ^ d + j))

-- A level down doubles a bound, and d levels down multiply it by 2 ^ d; so do d levels up, and the last step
-- up by 4. The points of a sum are the sums of points, and what both start nodes give is a sum as well.
pub record PointLaws : Type 0 where
  pub grows : (r h s m : ℕ) (a : ℕ → ℕ → ℤ) (j i : ℕ) →
      ((k t : ℕ) → k < 2 * h → t < r → Within m (a k t)) → j < h → i < r →
      Within (2 * m) (down r h s a j i)
  pub grows_down : (r d e m : ℕ) (a : ℕ → ℕ → ℤ) (p i : ℕ) →
      ((k t : ℕ) → k < 2 ^ d → t < r → Within m (a k t)) → p < 2 ^ d → i < r →
      Within (2 ^ d * m) (points r d e a p i)
  pub grows_up : (r d m : ℕ) (x y : ℕ → ℕ → ℤ) (j i : ℕ) →
      ((p t : ℕ) → p < 2 ^ d → t < r → unsigned_abs (x p t) ≤ m) →
      ((p t : ℕ) → p < 2 ^ d → t < r → unsigned_abs (y p t) ≤ m) → j < 2 ^ d → i < r →
      unsigned_abs (both r d x y j i) ≤ 4 * (2 ^ d * m)
  pub sums_down : (r d e : ℕ) (c : ℤ) (x y : ℕ → ℕ → ℤ) (p i : ℕ) → p < 2 ^ d → i < r →
      points r d e (λ m t. x m t +ℤ c *ℤ y m t) p i ≡ points r d e x p i +ℤ c *ℤ points r d e y p i
  pub sums_up : (r d : ℕ) (c : ℤ) (x y x' y' : ℕ → ℕ → ℤ) (j i : ℕ) → j < 2 ^ d → i < r →
      both r d (λ p t. x p t +ℤ c *ℤ x' p t) (λ p t. y p t +ℤ c *ℤ y' p t) j i
      ≡ both r d x y j i +ℤ c *ℤ both r d x' y' j i

-- Where all products at the points are right modulo 2 ^ 69, in two parts, 32 divides the low one, and both
-- give the sum of products modulo 2 ^ 64. The low part is below 2 ^ 63 for digits of at most 12 bits.
pub record RecoveryLaws : Type 0 where
  pub recovers : (r g n : ℕ) (a b : ℕ → ℕ → ℤ) (v v' : ℕ → ℕ → ℕ → ℕ) (high high' : ℕ → ℕ → ℤ) (j t : ℕ) →
      r ≡ 16 * g → j < 16 → t < r → ArePoints r 4 0 n b v → ArePoints r 4 r n b v' →
      AreHigh r high (pointwise r 4 0 n a (λ w p i. high_part (v w p i))) →
      AreHigh r high' (pointwise r 4 r n a (λ w p i. high_part (v' w p i))) →
      Recovers
      (both r 4 (pointwise r 4 0 n a (λ w p i. low_part (v w p i)))
      (pointwise r 4 r n a (λ w p i. low_part (v' w p i))) j t)
      (both r 4 high high' j t)
      (sum_to n (λ w. product (16 * r) (a w) (b w) (t * 16 + j)))
  pub fits : (r k levels base_log : ℕ) (a : ℕ → ℕ → ℤ) (v v' : ℕ → ℕ → ℕ → ℕ) (j t : ℕ) →
      k ≤ 4 → 1 ≤ base_log → base_log ≤ 12 → base_log * levels ≤ 60 → r ≤ 256 →
      ((w i : ℕ) → w < suc k * levels → i < 16 * r → Within (2 ^ (base_log - 1)) (a w i)) → j < 16 → t < r →
      unsigned_abs
      (both r 4 (pointwise r 4 0 (suc k * levels) a (λ w p i. low_part (v w p i)))
      (pointwise r 4 r (suc k * levels) a (λ w p i. low_part (v' w p i))) j t)
      < 2 ^ 63
