use Rattle.rx_tool.proofs.CircuitRuns.{circuit_way}
use Rattle.rx_tool.proofs.laws.circuit_way_laws.Goals as goal

pub returns : goal.returns
returns c = circuit_way c.whole_way_laws.ensures
