use Rattle.rx_tool.proofs.Foldings.{fold_way}
use Rattle.rx_tool.proofs.laws.fold_way_laws.Goals as goal

pub returns : goal.returns
returns c = fold_way c.fold_laws.ensures c.file_laws.ensures c.seeded_file_laws.ensures c.server_laws.ensures
