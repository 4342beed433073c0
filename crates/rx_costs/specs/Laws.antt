-- Laws of the definitions, as a contract can name them.
use Rattle.std.specs.Prelude.{ℕ, ◌+◌, ◌*◌, ◌<◌, ◌≤◌, ◌≡◌}
use Rattle.rx_costs.specs.Logs.{IsLogUp, log_up}
use Rattle.rx_costs.specs.Rounds.{groups, rounds, round_jobs}

-- the logarithm is the least exponent, and the only number that is
pub record LogLaws : Type 0 where
  pub least : (base n : ℕ) → 2 ≤ base → IsLogUp base n (log_up base n)
  pub one : (base n s t : ℕ) → IsLogUp base n s → IsLogUp base n t → s ≡ t

-- the groups are as many as are needed; rounds go on as long as there are more than two terms, and then end
pub record RoundLaws : Type 0 where
  pub hold : (most count : ℕ) → 1 ≤ most → count ≤ groups most count * most
  pub needed : (most count : ℕ) → 1 ≤ most → groups most count * most < count + most
  pub none : (most count : ℕ) → count ≤ 2 → rounds most count ≡ 0
  pub more : (most count : ℕ) → 5 ≤ most → 2 < count → rounds most count ≡ 1 + rounds most (2 * groups most count)
  pub jobs_none : (columns most count : ℕ) → count ≤ 2 → round_jobs columns most count ≡ 0
  pub jobs_more : (columns most count : ℕ) → 5 ≤ most → 2 < count →
      round_jobs columns most count ≡ 2 * columns * groups most count + round_jobs columns most (2 * groups most count)
