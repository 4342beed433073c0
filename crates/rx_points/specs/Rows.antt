-- Rows that lie side by side in one polynomial. Of n = rows * r numbers, place t * rows + w is place t of row w, as a block of
-- rx_ring is: the rows of x are 'blocks rows x'. Second factors have their rows in the opposite order, the last one first.
use Rattle.std.specs.Prelude.{ℕ, suc, ℤ, pos, ◌+ℤ◌, ◌-ℤ◌, ◌*ℤ◌, ◌+◌, ◌-◌, ◌*◌, ◌/◌, ◌%◌, ◌^◌, ◌<◌, ◌≡◌, List, length, get_or}
use Rattle.rx_ring.specs.Polynomial.{product}
use Rattle.rx_ring.specs.Blocks.{points, blocks}
use Rattle.rx_ring.specs.Limbs.{limb_at}
use Rattle.rx_ring.specs.Parts.{of_parts}
use Rattle.rx_points.specs.Numbers.{part}
use Rattle.rx_points.specs.Residues.{residue}
use Rattle.rx_points.specs.Windows.{window_sum}

-- the n numbers of b, the last one first
abbrev pub reversed : ℕ → (ℕ → ℤ) → ℕ → ℤ
reversed n b i = b (n - suc i)

-- the end of row t, at which a product has the sum of the products of rows
abbrev pub row_end : ℕ → ℕ → ℕ
row_end rows t = t * rows + (rows - 1)

-- xs are the six limbs of n numbers v, one limb after another, and of each limb the last number first
pub record AreLimbs (n : ℕ) (v : ℕ → ℕ) (xs : List ℤ) : Type 0 where
  pub each : (l u : ℕ) → l < 6 → u < n → get_or xs (l * n + u) (pos 0) ≡ limb_at l (v (n - suc u))

-- from the sum of each place is taken 2 ^ shift times the sum of products of the n numbers a with a window over b, modulo 2 ^ 69
pub record TakesWindows (n rows shift : ℕ) (a b : ℕ → ℤ) (old new : List ℕ) : Type 0 where
  pub each : (t : ℕ) → t < length old →
      residue (pos (get_or new t 0))
      ≡ residue (pos (get_or old t 0) -ℤ pos (2 ^ shift) *ℤ window_sum n a b (rows * (length old - suc t)))

-- to the sum of each place is added 2 ^ shift times the product of a and b reversed at the end of its row, modulo 2 ^ 69
pub record AddsProduct (n rows shift : ℕ) (a b : ℕ → ℤ) (old new : List ℕ) : Type 0 where
  pub each : (t : ℕ) → t < length old →
      residue (pos (get_or new t 0))
      ≡ residue (pos (get_or old t 0) +ℤ pos (2 ^ shift) *ℤ product n a (reversed n b) (row_end rows t))

-- the same for the product of a and v
pub record AddsPoint (n rows : ℕ) (a : ℕ → ℤ) (v : ℕ → ℕ) (old new : List ℕ) : Type 0 where
  pub each : (t : ℕ) → t < length old →
      residue (pos (get_or new t 0)) ≡ residue (pos (get_or old t 0) +ℤ product n a (λ u. pos (v u)) (row_end rows t))

-- xs are the limbs of 32 points of n numbers, the six of one point after those of another
pub record AreKeyLimbs (n : ℕ) (v : ℕ → ℕ → ℕ) (xs : List ℤ) : Type 0 where
  pub each : (p l u : ℕ) → p < 32 → l < 6 → u < n → get_or xs (p * (6 * n) + (l * n + u)) (pos 0) ≡ limb_at l (v p (n - suc u))

-- to the sum of each place of count points is added the product of f and v at that point, modulo 2 ^ 69
pub record AddsPoints (rows places count : ℕ) (f : ℕ → ℕ → ℤ) (v : ℕ → ℕ → ℕ) (old new : List ℕ) : Type 0 where
  pub each : (p t : ℕ) → p < count → t < places →
      residue (of_parts places new p t)
      ≡ residue (of_parts places old p t +ℤ product (rows * places) (f p) (λ u. pos (v p u)) (row_end rows t))

-- xs are the 32 points of the polynomials a of 16 * places coefficients, row beside row
pub record AreRowPoints (rows places : ℕ) (a : ℕ → ℕ → ℤ) (xs : List ℤ) : Type 0 where
  pub near : (w p t : ℕ) → w < rows → p < 16 → t < places →
      part (rows * places) xs p (t * rows + w) ≡ points places 4 0 (blocks 16 (a w)) p t
  pub away : (w p t : ℕ) → w < rows → p < 16 → t < places →
      part (rows * places) xs (16 + p) (t * rows + w) ≡ points places 4 places (blocks 16 (a w)) p t

-- xs are the limbs of the 32 points of the polynomials b of 16 * places coefficients, modulo 2 ^ 69, the last row first
pub record IsEvaluated (rows places : ℕ) (b : ℕ → ℕ → ℤ) (xs : List ℤ) : Type 0 where
  pub value : ℕ → ℕ → ℕ
  pub limbs : AreKeyLimbs (rows * places) value xs
  pub near : (w p t : ℕ) → w < rows → p < 16 → t < places →
      residue (pos (value p (t * rows + (rows - 1 - w)))) ≡ residue (points places 4 0 (blocks 16 (b w)) p t)
  pub away : (w p t : ℕ) → w < rows → p < 16 → t < places →
      residue (pos (value (16 + p) (t * rows + (rows - 1 - w)))) ≡ residue (points places 4 places (blocks 16 (b w)) p t)

-- coefficient i of row w of digits that lie row beside row, in 16 blocks
abbrev pub row_digit : ℕ → ℕ → List ℤ → ℕ → ℕ → ℤ
row_digit rows places xs w i = part (rows * places) xs (i % 16) (i / 16 * rows + w)

-- number i of block j of key words, row beside row, the last row first: the words of row w begin at stride * w
abbrev pub key_word : ℕ → ℕ → List ℕ → ℕ → ℕ → ℕ
key_word rows stride xs j i = get_or xs ((rows - 1 - i % rows) * stride + (i / rows * 16 + j)) 0
