use Rattle.rx_text.proofs.NumeralLemmas.{read_back, one_spelling}
use Rattle.rx_text.proofs.laws.numeral_laws.Goals as goal

pub returns : goal.returns
returns c = record { read_back = read_back; one_spelling = one_spelling }
