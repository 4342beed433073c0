use Rattle.rx_client.proofs.KeptItems.{reading_laws_from}
use Rattle.rx_client.proofs.laws.reading_laws.Goals as goal

pub returns : goal.returns
returns c = reading_laws_from c.keeps_laws.ensures
