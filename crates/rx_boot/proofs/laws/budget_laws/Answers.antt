use Rattle.rx_boot.proofs.Budget.{budget_laws}
use Rattle.rx_boot.proofs.laws.budget_laws.Goals as goal

pub returns : goal.returns
returns c = budget_laws
