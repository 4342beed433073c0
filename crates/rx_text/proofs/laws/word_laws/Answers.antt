use Rattle.rx_text.proofs.NumeralLemmas.{name_is_word, number_is_word}
use Rattle.rx_text.proofs.laws.word_laws.Goals as goal

pub returns : goal.returns
returns c = record { name = name_is_word; number = number_is_word }
