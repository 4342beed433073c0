-- Whole numbers modulo 2 ^ 69.
use Rattle.std.specs.Prelude.{ℕ, ℤ, pos, negsuc, ◌-ℤ◌, ◌-◌, ◌*◌, ◌%◌, ◌^◌, ◌<◌, ◌≡◌, List, length}
use Rattle.rx_laws.specs.Words.{of_words}
use Rattle.rx_ring.specs.Parts.{of_parts}
use Rattle.rx_ring.specs.Polynomial.{turns}

-- the number below 2 ^ 69 that a whole number is modulo 2 ^ 69
unfoldable pub residue : ℤ → ℕ
residue (pos n) = n % 2 ^ 69
residue (negsuc n) = 2 ^ 69 - 1 - n % 2 ^ 69

-- xs are n numbers, those of f modulo 2 ^ 69
pub record AreSums (n : ℕ) (f : ℕ → ℤ) (xs : List ℕ) : Type 0 where
  pub count : length xs ≡ n
  pub each : (i : ℕ) → i < n → residue (of_words xs i) ≡ residue (f i)

-- xs are the count blocks of f, of n numbers each, modulo 2 ^ 69
pub record AreResidues (n count : ℕ) (f : ℕ → ℕ → ℤ) (xs : List ℕ) : Type 0 where
  pub size : length xs ≡ count * n
  pub each : (j i : ℕ) → j < count → i < n → residue (of_parts n xs j i) ≡ residue (f j i)

-- Y ^ -s times a difference of blocks
abbrev pub turned_back : ℕ → ℕ → (ℕ → ℤ) → (ℕ → ℤ) → ℕ → ℤ
turned_back n s p q = turns n (λ t. p t -ℤ q t) (2 * n - s)
