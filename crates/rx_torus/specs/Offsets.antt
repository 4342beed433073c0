-- A number that is added to a word before its digits are cut out: half a digit at each level.
use Rattle.std.specs.Prelude.{ℕ, zero, suc, ◌+◌, ◌-◌, ◌*◌, ◌^◌}

-- half the base at each of so many places
unfoldable pub halves : ℕ → ℕ → ℕ
halves base_log zero = 0
halves base_log (suc j) = halves base_log j * 2 ^ base_log + 2 ^ (base_log - 1)

-- the same below the top of a word, and half of the last place to round by
unfoldable pub offset : ℕ → ℕ → ℕ
offset base_log levels = halves base_log levels * 2 ^ (64 - base_log * levels) + 2 ^ (63 - base_log * levels)
