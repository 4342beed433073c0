-- Rounds that bring the terms of each column of a product down to two: each groups the terms of a column by `most`, and a group
-- gives its sum to the column and its carry to the next, so that two terms stand for a group.
use Rattle.std.specs.Prelude.{ℕ, zero, suc, ◌+◌, ◌*◌, nat_lt, if◌then◌else◌}
use Rattle.std.specs.Int.{div_ceil}

-- how many groups of at most `most` hold `count` terms
unfoldable pub groups : ℕ → ℕ → ℕ
groups most count = div_ceil count most

-- the rounds from `count` terms on; the first number is more than they can be
unfoldable pub rounds_in : ℕ → ℕ → ℕ → ℕ
rounds_in zero most count = 0
rounds_in (suc n) most count = if nat_lt 2 count then 1 + rounds_in n most (2 * groups most count) else 0

-- none where there are two terms or fewer, else one and those from two for each group on
unfoldable pub rounds : ℕ → ℕ → ℕ
rounds most count = rounds_in count most count

-- the jobs of these rounds: two for each group of each of so many columns
unfoldable pub round_jobs_in : ℕ → ℕ → ℕ → ℕ → ℕ
round_jobs_in zero columns most count = 0
round_jobs_in (suc n) columns most count =
    if nat_lt 2 count then 2 * columns * groups most count + round_jobs_in n columns most (2 * groups most count) else 0

unfoldable pub round_jobs : ℕ → ℕ → ℕ → ℕ
round_jobs columns most count = round_jobs_in count columns most count
