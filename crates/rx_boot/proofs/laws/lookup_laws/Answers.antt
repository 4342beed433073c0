use Rattle.rx_boot.proofs.Lookup.{lookup_laws}
use Rattle.rx_boot.proofs.laws.lookup_laws.Goals as goal

pub returns : goal.returns
returns c = lookup_laws
