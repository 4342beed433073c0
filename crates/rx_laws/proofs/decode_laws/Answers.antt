use Rattle.rx_laws.proofs.Decode.{decodes}
use Rattle.rx_laws.proofs.decode_laws.Goals as goal

pub returns : goal.returns
returns c = record { decodes = decodes }
