-- What a shift asks of its amount: each of its low bits, and whether there is anything above them.
use Rattle.std.specs.Prelude.{ℕ, ◌/◌, ◌%◌, ◌^◌}
use Rattle.rx_cmp.specs.Groups.{is_some}

-- the bit at a place of a number
abbrev pub bit_at : ℕ → ℕ → ℕ
bit_at z place = z / 2 ^ place % 2

-- 1 where a number has a bit at the place or above it
abbrev pub is_wide : ℕ → ℕ → ℕ
is_wide z place = is_some (z / 2 ^ place)

-- what stands in a digit from a bit on
abbrev pub digit_above : ℕ → ℕ → ℕ → ℕ
digit_above unit bits x = x % unit / 2 ^ bits
