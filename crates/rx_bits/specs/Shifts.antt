-- Digits that are moved by fewer bits than a digit has.
use Rattle.std.specs.Prelude.{ℕ, zero, suc, ◌+◌, ◌-◌, ◌*◌, ◌%◌, ◌^◌, Bool}
use Rattle.rx_bits.specs.Signs.{filled_digit, between}

-- digit i, where digits are moved up by so many bits
abbrev pub raised_digit : ℕ → ℕ → (ℕ → ℕ) → ℕ → ℕ
raised_digit m bits digit zero = digit 0 * 2 ^ bits % 2 ^ m
raised_digit m bits digit (suc i) = between m (m - bits) (digit (suc i)) (digit i)

-- digit i, where count digits are moved down by so many bits
abbrev pub lowered_digit : Bool → ℕ → ℕ → ℕ → (ℕ → ℕ) → ℕ → ℕ
lowered_digit signed m count bits digit i =
    between m bits (filled_digit signed m count digit (i + 1)) (filled_digit signed m count digit i)
