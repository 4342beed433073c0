use Rattle.rx_boot.proofs.SeededKeys.{seeded_key_laws}
use Rattle.rx_boot.proofs.seeded.seeded_key_laws.Goals as goal

pub returns : goal.returns
returns c = seeded_key_laws
