use Rattle.rx_multi.proofs.Lookup.{pair_lookup_laws}
use Rattle.rx_multi.proofs.laws.pair_lookup_laws.Goals as goal

pub returns : goal.returns
returns c = pair_lookup_laws
