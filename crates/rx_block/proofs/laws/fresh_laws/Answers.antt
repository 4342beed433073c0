use Rattle.rx_block.proofs.FreshBlocks.{fresh-near, fresh-decodes, fresh-keeps}
use Rattle.rx_block.proofs.laws.fresh_laws.Goals as goal

pub returns : goal.returns
returns c = record { near = fresh-near; decodes = fresh-decodes; keeps = fresh-keeps }
