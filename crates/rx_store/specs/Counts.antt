-- Counts of calls and of faults. A count is kept in a u64, and stays at that type's last value.
use Rattle.std.specs.Prelude.{◌≤◌, ℕ, ◌+◌, ◌-◌, ◌^◌, min, Bool, true, false}

-- the count rose, or stands at the last value
abbrev pub Rose : ℕ → ℕ → Type 0
Rose before now = min (before + 1) (2 ^ 64 - 1) ≤ now

-- one more, up to the last value
abbrev pub one_more : ℕ → ℕ
one_more count = min (count + 1) (2 ^ 64 - 1)

-- one more exactly where the call failed
abbrev pub counted : Bool → ℕ → ℕ
counted true count = one_more count
counted false count = count
