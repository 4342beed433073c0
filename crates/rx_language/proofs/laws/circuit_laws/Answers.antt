use Rattle.rx_language.proofs.RoundTrip.{TextLaws, laws_hold}
use Rattle.rx_language.proofs.laws.circuit_laws.Goals as goal

pub returns : goal.returns
returns c =
    let laws : TextLaws = record { numerals = c.numeral_laws.ensures; texts = c.word_laws.ensures; lines = c.line_laws.ensures } in
    laws_hold laws
