-- A balanced tree of states.
use Rattle.std.specs.Prelude.{ℕ, ◌+◌, ◌*◌, nat_lt, if◌then◌else◌}
use Rattle.rx_carry.specs.Carries.{combine}

-- node i of the next level of count nodes: a pair is combined, and the last of an odd count stays
unfoldable pub halved : ℕ → (ℕ → ℕ) → ℕ → ℕ
halved count v i = if nat_lt (2 * i + 1) count then combine (v (2 * i + 1)) (v (2 * i)) else v (2 * i)

-- its jobs
unfoldable pub join_jobs : ℕ → ℕ → ℕ
join_jobs count i = if nat_lt (2 * i + 1) count then 1 else 0
