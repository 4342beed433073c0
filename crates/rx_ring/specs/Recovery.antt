-- A sum of products from its points, where the second factors are known by their points alone, in limbs, and
-- as far as 64 bits of the sum ask for.
use Rattle.std.specs.Prelude.{ℕ, ℤ, pos, ◌+ℤ◌, ◌*ℤ◌, ◌^◌, ◌<◌, ◌≡◌}
use Rattle.rx_laws.specs.Sum.{sum_to}
use Rattle.rx_laws.specs.Torus.{word}
use Rattle.rx_ring.specs.Polynomial.{product}
use Rattle.rx_ring.specs.Blocks.{points, blocks}
use Rattle.rx_ring.specs.Limbs.{limb_at}

-- the sum of n products at the points of the node of exponent e, where the second factors are given by their
-- points x
abbrev pub pointwise : ℕ → ℕ → ℕ → ℕ → (ℕ → ℕ → ℤ) → (ℕ → ℕ → ℕ → ℤ) → ℕ → ℕ → ℤ
pointwise r d e n a x p i = sum_to n (λ w. product r (points r d e (blocks (2 ^ d) (a w)) p) (x w p) i)

-- the same by limb l of the points v
abbrev pub limb_sum : ℕ → ℕ → ℕ → ℕ → (ℕ → ℕ → ℤ) → (ℕ → ℕ → ℕ → ℕ) → ℕ → ℕ → ℕ → ℤ
limb_sum r d e n a v l p i = pointwise r d e n a (λ w p i. limb_at l (v w p i)) p i

-- x and y, of n lists of points each, are the low and the high part of the points of b, but for multiples of
-- 2 ^ (30 + 39)
pub record ArePointParts (r d e n : ℕ) (b : ℕ → ℕ → ℤ) (x y : ℕ → ℕ → ℕ → ℤ) : Type 0 where
  pub over : ℕ → ℕ → ℕ → ℤ
  pub equal : (w p t : ℕ) → w < n → p < 2 ^ d → t < r →
      x w p t +ℤ pos (2 ^ 30) *ℤ y w p t
      ≡ points r d e (blocks (2 ^ d) (b w)) p t +ℤ pos (2 ^ 69) *ℤ over w p t

-- low + 2 ^ 30 * high is c at all 16 points of r coefficients, but for multiples of 2 ^ 69
pub record AreRight (r : ℕ) (low high c : ℕ → ℕ → ℤ) : Type 0 where
  pub over : ℕ → ℕ → ℤ
  pub equal : (p t : ℕ) → p < 16 → t < r →
      low p t +ℤ pos (2 ^ 30) *ℤ high p t ≡ c p t +ℤ pos (2 ^ 69) *ℤ over p t

-- 32 times c in two parts: the low one is divided by 32
pub record Recovers (low high c : ℤ) : Type 0 where
  pub quotient : ℤ
  pub divides : low ≡ pos 32 *ℤ quotient
  pub same : word (quotient +ℤ pos (2 ^ 25) *ℤ high) ≡ word c

-- v are the points of the n polynomials b, but for multiples of 2 ^ 69
pub record ArePoints (r d e n : ℕ) (b : ℕ → ℕ → ℤ) (v : ℕ → ℕ → ℕ → ℕ) : Type 0 where
  pub over : ℕ → ℕ → ℕ → ℤ
  pub equal : (w p t : ℕ) → w < n → p < 2 ^ d → t < r →
      pos (v w p t) ≡ points r d e (blocks (2 ^ d) (b w)) p t +ℤ pos (2 ^ 69) *ℤ over w p t

-- x is y at all 16 points of r coefficients, but for multiples of 2 ^ 39
pub record AreHigh (r : ℕ) (x y : ℕ → ℕ → ℤ) : Type 0 where
  pub over : ℕ → ℕ → ℤ
  pub equal : (p t : ℕ) → p < 16 → t < r → x p t ≡ y p t +ℤ pos (2 ^ 39) *ℤ over p t
