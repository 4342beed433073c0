use Rattle.rx_client.proofs.LineDigits.{values_kept, line_number}
use Rattle.rx_client.proofs.laws.encrypting_laws.Goals as goal

pub returns : goal.returns
returns c = record { kept = values_kept; number = line_number }
