-- The signed digits of a word.
use Rattle.std.specs.Prelude.{ℕ, zero, suc, ℤ, pos, neg_ℤ, ◌-ℤ◌, ◌*ℤ◌, ◌≤ℤ◌, ◌<ℤ◌, ◌+◌, ◌-◌, ◌*◌, ◌/◌, ◌%◌, ◌^◌, ◌<◌, ◌≡◌, List, length, get_or}
use Rattle.rx_laws.specs.Sum.{sum_to}
use Rattle.rx_laws.specs.Torus.{word}

-- the multiple of 2 ^ (64 - bits) that is nearest to a word, a tie going up, modulo 2 ^ 64
abbrev pub rounded : ℕ → ℕ → ℕ
rounded w bits = (w + 2 ^ (63 - bits)) / 2 ^ (64 - bits) * 2 ^ (64 - bits) % 2 ^ 64

-- what digits stand for: the first has the weight 2 ^ (64 - base_log)
abbrev pub digits_total : ℕ → ℕ → (ℕ → ℤ) → ℤ
digits_total base_log levels d = sum_to levels (λ t. d t *ℤ pos (2 ^ (64 - base_log * suc t)))

-- the digits of w: they lie in [-2 ^ (base_log - 1), 2 ^ (base_log - 1)), and stand for w, rounded
pub record IsDigits (w base_log levels : ℕ) (ds : List ℤ) : Type 0 where
  pub count : length ds ≡ levels
  pub low : (t : ℕ) → t < levels → neg_ℤ (pos (2 ^ (base_log - 1))) ≤ℤ get_or ds t (pos 0)
  pub high : (t : ℕ) → t < levels → get_or ds t (pos 0) <ℤ pos (2 ^ (base_log - 1))
  pub total : word (digits_total base_log levels (λ t. get_or ds t (pos 0))) ≡ rounded w (base_log * levels)

-- what is left of v once j digits were taken off its end
unfoldable pub rests : ℕ → ℕ → ℕ → ℕ
rests base_log v zero = v
rests base_log v (suc j) = (rests base_log v j + 2 ^ (base_log - 1)) / 2 ^ base_log

-- digit t of the word w, of which the first is the highest
unfoldable pub digit : ℕ → ℕ → ℕ → ℕ → ℤ
digit base_log levels w t =
    let v = rounded w (base_log * levels) / 2 ^ (64 - base_log * levels) in
    pos ((rests base_log v (levels - suc t) + 2 ^ (base_log - 1)) % 2 ^ base_log) -ℤ pos (2 ^ (base_log - 1))
