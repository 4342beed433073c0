-- Two numbers that a planner is given.
use Rattle.std.specs.Prelude.{ℕ, ◌≡◌, List, [], length}
use Rattle.rx_net.specs.declared.net.Net.{Net}
use Rattle.rx_plan.specs.Planned.{AreBlocks}

-- the blocks of two inputs of a net without jobs
pub record AreOperands (net : Net) (space blocks : ℕ) (a b : List ℕ) : Type 0 where
  pub space_is : net.space ≡ space
  pub no_jobs : net.jobs ≡ []
  pub first_count : length a ≡ blocks
  pub second_count : length b ≡ blocks
  pub first : AreBlocks net a
  pub second : AreBlocks net b
