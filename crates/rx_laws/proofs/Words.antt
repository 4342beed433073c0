-- The words of a function as a list.
use Rattle.std.proofs.Common.{◌≡◌, ℕ, ℤ, ◌^◌, ◌<◌, arith, List, get_or}
use Rattle.std.proofs.lemmas.List.FromFn.{length-map-range_with_len, get_or-map-range_with_len, fill_by_all}
use Rattle.rx_laws.specs.Torus.{word}
use Rattle.rx_laws.specs.Words.{AreWords, words_below}
use Rattle.rx_laws.proofs.Torus.{word-lt}

pub words_below-are : (n : ℕ) (f : ℕ → ℤ) → AreWords n f (words_below n f)
words_below-are n f = record {
  count = length-map-range_with_len (λ i. word (f i)) 0 n;
  each = λ i p. get_or-map-range_with_len (λ i. word (f i)) 0 n i i 0 p (omega arith);
}

pub are-words_below : (n : ℕ) (f : ℕ → ℤ) (xs : List ℕ) → AreWords n f xs → xs ≡ words_below n f
are-words_below n f xs are = fill_by_all (λ i. word (f i)) xs n 0 are.count are.each

pub words_below-fit : (n : ℕ) (f : ℕ → ℤ) (i : ℕ) → i < n → get_or (words_below n f) i 0 < 2 ^ 64
words_below-fit n f i low = omega (arith, (words_below-are n f).each i low, word-lt (f i))
