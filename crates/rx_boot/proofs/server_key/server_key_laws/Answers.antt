use Rattle.rx_boot.proofs.MadeKeys.{server_key_laws}
use Rattle.rx_boot.proofs.server_key.server_key_laws.Goals as goal

pub returns : goal.returns
returns c = server_key_laws
