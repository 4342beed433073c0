use Rattle.rx_meaning.proofs.Numbers.{number_held, number_exact}
use Rattle.rx_meaning.proofs.laws.number_laws.Goals as goal

pub returns : goal.returns
returns c = record { held = number_held; exact = number_exact }
