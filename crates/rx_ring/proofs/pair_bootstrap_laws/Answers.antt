use Rattle.rx_ring.proofs.PairBootstrap.{pair_bootstrap_laws}
use Rattle.rx_ring.proofs.pair_bootstrap_laws.Goals as goal

pub returns : goal.returns
returns c = pair_bootstrap_laws
