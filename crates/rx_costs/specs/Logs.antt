-- Logarithms rounded up: how many levels a tree of so many leaves has.
use Rattle.std.specs.Prelude.{ℕ, zero, suc, ◌^◌, ◌≤◌, nat_le, if◌then◌else◌}

-- the first of t, t + 1, .. whose power of the base is n or more; the first number says how many are tried
unfoldable pub log_from : ℕ → ℕ → ℕ → ℕ → ℕ
log_from zero base n t = t
log_from (suc tries) base n t = if nat_le n (base ^ t) then t else log_from tries base n (suc t)

-- the least t with n ≤ base ^ t, for a base of 2 or more
unfoldable pub log_up : ℕ → ℕ → ℕ
log_up base n = log_from n base n 0

-- t is the least number with n ≤ base ^ t
pub record IsLogUp (base n t : ℕ) : Type 0 where
  pub enough : n ≤ base ^ t
  pub least : (s : ℕ) → n ≤ base ^ s → t ≤ s
