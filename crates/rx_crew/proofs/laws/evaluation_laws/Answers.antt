use Rattle.rx_crew.proofs.CellTags.{evaluation_laws}
use Rattle.rx_crew.proofs.laws.evaluation_laws.Goals as goal

pub returns : goal.returns
returns c = evaluation_laws
