use Rattle.rx_crew.proofs.Keeping.{keeping_laws_from}
use Rattle.rx_crew.proofs.laws.keeping_laws.Goals as goal

pub returns : goal.returns
returns c = keeping_laws_from c.lookup_laws.ensures c.keeps_laws.ensures
