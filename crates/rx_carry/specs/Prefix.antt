-- A prefix of states, level by level, and its jobs.
use Rattle.std.specs.Prelude.{ℕ, ◌+◌, ◌-◌, ◌*◌, ◌/◌, ◌%◌, ◌^◌, nat_eq, if◌then◌else◌}
use Rattle.rx_costs.specs.Logs.{log_up}
use Rattle.rx_plan.specs.Values.{total}
use Rattle.rx_carry.specs.Carries.{combine}

-- A level of spans: a place in the upper half of two spans is combined with the last place of the lower half.
unfoldable pub stepped : ℕ → (ℕ → ℕ) → ℕ → ℕ
stepped span v i = if nat_eq (i / span % 2) 0 then v i else combine (v i) (v (i / span * span - 1))

-- the combinations of a level over so many places
abbrev pub combined_at : ℕ → ℕ → ℕ
combined_at span count = total count (λ i. i / span % 2)

-- how many ones the numbers below count have together, written to the base 2: the combinations of a prefix
unfoldable pub ones_below : ℕ → ℕ
ones_below count = total (log_up 2 count) (λ t. combined_at (2 ^ t) count)

-- the jobs of a sum: a state for each block but the last, the combinations, and a job for each block
abbrev pub sum_jobs : ℕ → ℕ
sum_jobs blocks = 2 * blocks - 1 + ones_below (blocks - 1)
