-- A number with a sign, whose digits are turned where its top digit says that it is negative.
use Rattle.std.specs.Prelude.{ℕ, ◌-◌, ◌/◌, ◌%◌, ◌^◌, true, if◌then◌else◌}
use Rattle.rx_bits.specs.Signs.{is_negative}

-- a digit x of a number whose top digit is this one: each of its bits turned where the number is negative
abbrev pub turned_under : ℕ → ℕ → ℕ → ℕ
turned_under m top x = if is_negative true m top then 2 ^ m - 1 - x else x

-- the same of the two digits of an index
abbrev pub turned_entry : ℕ → ℕ → ℕ
turned_entry m i = turned_under m (i / 2 ^ m) (i % 2 ^ m)
