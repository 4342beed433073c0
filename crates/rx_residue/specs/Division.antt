-- The quotient and the remainder of numbers of so many bits, also where the divisor is 0.
use Rattle.std.specs.Prelude.{ℕ, ◌-◌, ◌/◌, ◌%◌, ◌^◌, ◌==◌, if◌then◌else◌}

-- how often b goes into a; for a b of 0 the greatest number of so many bits
unfoldable pub quotient : ℕ → ℕ → ℕ → ℕ
quotient width a b = if b == 0 then 2 ^ width - 1 else a / b

-- what is left of a; for a b of 0 it is a
unfoldable pub remainder : ℕ → ℕ → ℕ
remainder a b = if b == 0 then a else a % b
