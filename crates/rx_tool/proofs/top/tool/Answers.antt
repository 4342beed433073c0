use Rattle.rx_tool.proofs.ClauseLemmas.{outcome}
use Rattle.rx_tool.proofs.top.tool.Goals as goal

pub returns : goal.returns
returns g c = outcome c.reading_laws.ensures c.file_laws.ensures c.seeded_file_laws.ensures c.run_words-status.ensures
