use Rattle.rx_costs.proofs.Groupings.{groups_hold, groups_needed, rounds_none, rounds_step, jobs_none, jobs_step}
use Rattle.rx_costs.proofs.laws.round_laws.Goals as goal

pub returns : goal.returns
returns c = record { hold = groups_hold; needed = groups_needed; none = rounds_none; more = rounds_step; jobs_none = jobs_none; jobs_more = jobs_step }
