use Rattle.rx_block.proofs.KeptLaws.{keeps_laws_from}
use Rattle.rx_block.proofs.laws.keeps_laws.Goals as goal

pub returns : goal.returns
returns c = keeps_laws_from c.lookup_laws.ensures
