use Rattle.rx_costs.proofs.Exponents.{log_least, log_one}
use Rattle.rx_costs.proofs.laws.log_laws.Goals as goal

pub returns : goal.returns
returns c = record { least = log_least; one = log_one }
