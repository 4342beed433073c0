-- Whether two numbers are equal.
use Rattle.std.specs.Prelude.{ℕ, ◌/◌, ◌%◌, ◌==◌, if◌then◌else◌}

-- 1 where x and y are equal
abbrev pub equal : ℕ → ℕ → ℕ
equal x y = if x == y then 1 else 0

-- 1 where x and y differ
abbrev pub differ : ℕ → ℕ → ℕ
differ x y = if x == y then 0 else 1

-- whether the two digits of an index differ
abbrev pub digits_differ : ℕ → ℕ → ℕ
digits_differ unit i = differ (i / unit) (i % unit)
