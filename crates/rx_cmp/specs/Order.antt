-- The order of numbers, with a sign or without.
use Rattle.std.specs.Prelude.{ℕ, Bool, true, false, ◌+◌, ◌-◌, ◌/◌, ◌%◌, ◌^◌, ℤ, int_lt, int_le, nat_lt, nat_le, if◌then◌else◌}
use Rattle.rx_carry.specs.declared.operation.Operation.TheVariants.{Difference}
use Rattle.rx_carry.specs.Carries.{joint, state_of}

-- 1 where x is at most y
abbrev pub is_at_most : ℕ → ℕ → ℕ
is_at_most x y = if nat_le x y then 1 else 0

-- 1 where x is below y
abbrev pub is_less_signed : ℤ → ℤ → ℕ
is_less_signed x y = if int_lt x y then 1 else 0

-- 1 where x is at most y
abbrev pub is_at_most_signed : ℤ → ℤ → ℕ
is_at_most_signed x y = if int_le x y then 1 else 0

-- a number of so many bits, of which the top one is turned: the order of signed numbers is that of numbers that are turned so
abbrev pub turned : ℕ → ℕ → ℕ
turned bits x = (x + 2 ^ (bits - 1)) % 2 ^ bits

-- the number by which one with a sign, or without, is compared
abbrev pub ranked : Bool → ℕ → ℕ → ℕ
ranked true bits x = turned bits x
ranked false bits x = x

-- the borrow state of two top blocks with a sign, at the index of both
abbrev pub signed_state : ℕ → ℕ → ℕ
signed_state m i = state_of Difference (2 ^ m) (joint Difference (2 ^ m) (turned m (i / 2 ^ m)) (turned m (i % 2 ^ m)) 0)

-- the blocks of a number, of which the top one is turned
abbrev pub turned_top : ℕ → ℕ → (ℕ → ℕ) → ℕ → ℕ
turned_top m count block i = if nat_lt i (count - 1) then block i else turned m (block i)
