-- What the rounds that sum the rows of a product share.
use Rattle.std.specs.Prelude.{◌/◌, ◌%◌, ◌^◌, ◌≤◌}
use Rattle.rx_net.specs.declared.net.Net.{Net}
use Rattle.rx_plan.specs.Tables.{HasEntries}
use Rattle.rx_plan.specs.Rows.{IsNought}
use Rattle.rx_mul.specs.declared.rounds.Shared.{Shared}

-- rows of some width, a cell that is 0, and the tables of digits and of carries
pub record IsShared (net : Net) (shared : Shared) : Type 0 where
  pub wide : 1 ≤ shared.width
  pub nought : IsNought net shared.nought
  pub digits : HasEntries net.space (λ i. i % 2 ^ net.space) shared.digits.items
  pub carries : HasEntries net.space (λ i. i / 2 ^ net.space) shared.carries.items
