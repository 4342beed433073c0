-- Elements modulo Z ^ k - Y ^ e over the polynomials modulo Y ^ r + 1. An element is the function of its
-- blocks, of which the first k are read, and a block is a polynomial of r coefficients.
use Rattle.std.specs.Prelude.{ℕ, zero, suc, ℤ, pos, neg_ℤ, ◌+ℤ◌, ◌-ℤ◌, ◌≤ℤ◌, ◌<ℤ◌}
use Rattle.std.specs.Prelude.{◌+◌, ◌-◌, ◌*◌, ◌/◌, ◌^◌, nat_le, nat_lt, if◌then◌else◌}
use Rattle.rx_laws.specs.Sum.{sum_to}
use Rattle.rx_ring.specs.Polynomial.{turns, product}

-- block j of Z ^ m times b, where m is below k: a block that passes place k comes back Y ^ e times
unfoldable pub wrapped : ℕ → ℕ → ℕ → (ℕ → ℕ → ℤ) → ℕ → ℕ → ℕ → ℤ
wrapped r k e b m j = if nat_le m j then b (j - m) else turns r (b (j + k - m)) e

-- coefficient i of block j of the product of a and b
unfoldable pub block_product : ℕ → ℕ → ℕ → (ℕ → ℕ → ℤ) → (ℕ → ℕ → ℤ) → ℕ → ℕ → ℤ
block_product r k e a b j i = sum_to k (λ m. product r (a m) (wrapped r k e b m j) i)

-- a modulo Z ^ h - Y ^ s, of 2 * h blocks
unfoldable pub down : ℕ → ℕ → ℕ → (ℕ → ℕ → ℤ) → ℕ → ℕ → ℤ
down r h s a j i = a j i +ℤ turns r (a (h + j)) s i

-- twice the element of 2 * h blocks that is p modulo Z ^ h - Y ^ s and q modulo Z ^ h + Y ^ s, where s is at
-- most 2 * r
unfoldable pub up : ℕ → ℕ → ℕ → (ℕ → ℕ → ℤ) → (ℕ → ℕ → ℤ) → ℕ → ℕ → ℤ
up r h s p q j = if nat_lt j h then (λ i. p j i +ℤ q j i)
    else turns r (λ i. p (j - h) i -ℤ q (j - h) i) (2 * r - s)

-- point p of the 2 ^ d points of a, an element modulo Z ^ (2 ^ d) - Y ^ e
unfoldable pub points : ℕ → ℕ → ℕ → (ℕ → ℕ → ℤ) → ℕ → ℕ → ℤ
points r zero e a p = a p
points r (suc d) e a p = if nat_lt p (2 ^ d) then points r d (e / 2) (down r (2 ^ d) (e / 2) a) p
    else points r d (e / 2 + r) (down r (2 ^ d) (e / 2 + r) a) (p - 2 ^ d)

-- 2 ^ d times the element modulo Z ^ (2 ^ d) - Y ^ e that has the 2 ^ d points c
unfoldable pub from_points : ℕ → ℕ → ℕ → (ℕ → ℕ → ℤ) → ℕ → ℕ → ℤ
from_points r zero e c = c
from_points r (suc d) e c = up r (2 ^ d) (e / 2) (from_points r d (e / 2) c)
    (from_points r d (e / 2 + r) (λ p. c (2 ^ d + p)))

-- the blocks of a polynomial of k * r coefficients: place t of block j is coefficient t * k + j
unfoldable pub blocks : ℕ → (ℕ → ℤ) → ℕ → ℕ → ℤ
blocks k a j t = a (t * k + j)

-- from what is 'low' modulo Z ^ k - 1 and 'high' modulo Z ^ k + 1: twice the element modulo Z ^ k - Y
unfoldable pub closed : ℕ → (ℕ → ℕ → ℤ) → (ℕ → ℕ → ℤ) → ℕ → ℕ → ℤ
closed r low high j i = (low j i +ℤ high j i) +ℤ turns r (λ t. low j t -ℤ high j t) 1 i

-- the products of a and b at their points
abbrev pub point_products : ℕ → ℕ → ℕ → (ℕ → ℕ → ℤ) → (ℕ → ℕ → ℤ) → ℕ → ℕ → ℤ
point_products r d e a b p = product r (points r d e a p) (points r d e b p)

-- 2 ^ suc d times the element modulo Z ^ (2 ^ d) - Y, from the points x of Z ^ (2 ^ d) - 1 and y of
-- Z ^ (2 ^ d) + 1
unfoldable pub both : ℕ → ℕ → (ℕ → ℕ → ℤ) → (ℕ → ℕ → ℤ) → ℕ → ℕ → ℤ
both r d x y = closed r (from_points r d 0 x) (from_points r d r y)

-- the sum of n products, at the points of the node of exponent e: factor w is a w and b w, polynomials of
-- 2 ^ d * r coefficients
abbrev pub summed_products : ℕ → ℕ → ℕ → ℕ → (ℕ → ℕ → ℤ) → (ℕ → ℕ → ℤ) → ℕ → ℕ → ℤ
summed_products r d e n a b p i =
    sum_to n (λ w. point_products r d e (blocks (2 ^ d) (a w)) (blocks (2 ^ d) (b w)) p i)

-- x lies in [-m, m)
pub record Within (m : ℕ) (x : ℤ) : Type 0 where
  pub low : neg_ℤ (pos m) ≤ℤ x
  pub high : x <ℤ pos m
