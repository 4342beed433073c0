use Rattle.rx_tool.proofs.BothWays.{both_ways}
use Rattle.rx_tool.proofs.laws.both_ways_laws.Goals as goal

pub returns : goal.returns
returns c = both_ways c.file_laws.ensures c.seeded_file_laws.ensures
