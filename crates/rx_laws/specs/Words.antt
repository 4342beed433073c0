-- Lists of words and of numbers, read as functions of the place.
use Rattle.std.specs.Prelude.{ℕ, ℤ, pos, ◌<◌, ◌≡◌, List, length, get_or, map}
use Rattle.std.specs.List.{range_with_len}
use Rattle.rx_laws.specs.Torus.{word}

-- the numbers that the words of a list are
abbrev pub of_words : List ℕ → ℕ → ℤ
of_words xs i = pos (get_or xs i 0)

-- the numbers of a list
abbrev pub of_numbers : List ℤ → ℕ → ℤ
of_numbers xs i = get_or xs i (pos 0)

-- xs are n words, those of the function f modulo 2 ^ 64
pub record AreWords (n : ℕ) (f : ℕ → ℤ) (xs : List ℕ) : Type 0 where
  pub count : length xs ≡ n
  pub each : (i : ℕ) → i < n → get_or xs i 0 ≡ word (f i)

-- the n words of the function f modulo 2 ^ 64
abbrev pub words_below : ℕ → (ℕ → ℤ) → List ℕ
words_below n f = map (λ i. word (f i)) (range_with_len 0 n)
