-- Lists of numbers of 16 bits.
use Rattle.std.specs.Prelude.{ℕ, ℤ, pos, ◌+◌, ◌-◌, ◌*◌, ◌<◌, ◌≤◌, ◌≡◌, List, length, get_or, FitsSigned}
use Rattle.std.specs.Int.{int_wrap, w16}
use Rattle.rx_ring.specs.Polynomial.{turned}

-- all numbers of xs are of 16 bits, with a sign
pub record AllFit (xs : List ℤ) : Type 0 where
  pub each : (i : ℕ) → FitsSigned w16 (get_or xs i (pos 0))

-- xs are n numbers, those of f modulo 2 ^ 16
pub record AreNumbers (n : ℕ) (f : ℕ → ℤ) (xs : List ℤ) : Type 0 where
  pub count : length xs ≡ n
  pub each : (i : ℕ) → i < n → get_or xs i (pos 0) ≡ int_wrap w16 (f i)

-- the first m numbers are those of f modulo 2 ^ 16, and the others those of old
pub record WrittenTo (m : ℕ) (f : ℕ → ℤ) (old new : List ℤ) : Type 0 where
  pub written : (i : ℕ) → i < m → get_or new i (pos 0) ≡ int_wrap w16 (f i)
  pub left : (i : ℕ) → m ≤ i → get_or new i (pos 0) ≡ get_or old i (pos 0)

-- from place n - t on stand the n numbers of Y ^ t times b modulo 2 ^ 16, for each t up to n
pub record HoldsTurns (n : ℕ) (b : ℕ → ℤ) (xs : List ℤ) : Type 0 where
  pub each : (t i : ℕ) → t ≤ n → i < n → get_or xs (n - t + i) (pos 0) ≡ int_wrap w16 (turned n b t i)

-- the blocks of a list, of n numbers each
abbrev pub part : ℕ → List ℤ → ℕ → ℕ → ℤ
part n xs j i = get_or xs (j * n + i) (pos 0)

-- xs are the count blocks of f, of n numbers each, modulo 2 ^ 16
pub record AreBlocks (n count : ℕ) (f : ℕ → ℕ → ℤ) (xs : List ℤ) : Type 0 where
  pub size : length xs ≡ count * n
  pub each : (j i : ℕ) → j < count → i < n → part n xs j i ≡ int_wrap w16 (f j i)
