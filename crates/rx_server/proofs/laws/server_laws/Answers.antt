use Rattle.rx_server.proofs.FoundBlocks.{found_fit}
use Rattle.rx_server.proofs.FoundDigits.{found_kept, joined_kept}
use Rattle.rx_server.proofs.OutputItems.{outputs_fit, outputs_keep}
use Rattle.rx_server.proofs.laws.server_laws.Goals as goal

pub returns : goal.returns
returns c = record {
  inputs = found_fit;
  outputs = outputs_fit;
  kept = outputs_keep;
  found_kept = found_kept;
  joined_kept = joined_kept;
}
