use Rattle.rx_multi.proofs.Keys.{pair_key_laws}
use Rattle.rx_multi.proofs.laws.pair_key_laws.Goals as goal

pub returns : goal.returns
returns c = pair_key_laws
