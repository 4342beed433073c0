use Rattle.rx_pairs.proofs.PairFiles.{laws}
use Rattle.rx_pairs.proofs.laws.pair_file_laws.Goals as goal

pub returns : goal.returns
returns c = laws
