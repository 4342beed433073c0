use Rattle.rx_ring.proofs.PairBootstrap.{pair_turn_laws}
use Rattle.rx_ring.proofs.pair_turn_laws.Goals as goal

pub returns : goal.returns
returns c = pair_turn_laws
