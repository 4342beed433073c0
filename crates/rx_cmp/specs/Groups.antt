-- Groups of cells, and whether one of them is not 0.
use Rattle.std.specs.Prelude.{ℕ, zero, suc, min, max, ◌+◌, ◌-◌, ◌*◌, ◌==◌, if◌then◌else◌}
use Rattle.rx_plan.specs.Values.{total}

-- 1 where x is not 0
abbrev pub is_some : ℕ → ℕ
is_some zero = 0
is_some (suc x) = 1

-- the size of group i of count cells in groups of most
unfoldable pub group_size : ℕ → ℕ → ℕ → ℕ
group_size most count i = min most (count - i * most)

-- what stands for a group: a cell alone stands for itself, and several are looked up
abbrev pub joined : ℕ → (ℕ → ℕ) → ℕ
joined size v = if size == 1 then v 0 else is_some (total size v)

-- what stands for group i
abbrev pub grouped : ℕ → ℕ → (ℕ → ℕ) → ℕ → ℕ
grouped most count v i = joined (group_size most count i) (λ j. v (i * most + j))

-- the jobs that bring so many cells to one bit, at most
abbrev pub any_jobs : ℕ → ℕ
any_jobs count = max 1 (count - 1)
