use Rattle.rx_tool.proofs.WholeRuns.{whole_way}
use Rattle.rx_tool.proofs.laws.whole_way_laws.Goals as goal

pub returns : goal.returns
returns c = whole_way (record {
  keys = c.server_key_laws.ensures;
  encrypting = c.encrypting_laws.ensures;
  keeping = c.keeping_laws.ensures;
  server = c.server_laws.ensures;
  reading = c.reading_laws.ensures;
})
