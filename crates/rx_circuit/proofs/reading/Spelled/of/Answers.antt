use Rattle.std.proofs.Common.{sym}
use Rattle.rx_text.specs.Lines.{words_of}
use Rattle.rx_text.specs.Numerals.{numeral_of}
use Rattle.rx_circuit.specs.Values.{kind_of}
use Rattle.rx_circuit.proofs.Lines.{spelled_of_four, without_name, with_all}
use Rattle.rx_circuit.proofs.reading.Spelled.of.Goals as goal

pub returns-in_err-of : goal.returns-in_err-of
returns-in_err-of c =
    let words = spelled_of_four (words_of c.args.line.now) _ _ _ _ c.in_ok-kind.ensures in
    rw (c.from_residual-in_err-of.ensures, words) (without_name (kind_of c.in_ok-kind.kind.now) c.in_ok-kind.name.now (numeral_of c.in_ok-kind.bits.now) (numeral_of c.in_ok-kind.value.now) c.in_err-of.ensures)

pub returns : goal.returns
returns c =
    let words = spelled_of_four (words_of c.args.line.now) _ _ _ _ c.in_ok-kind.ensures in
    let kind = sym c.in_ok-kind_of_word.ensures in
    rw (words, kind) (with_all c.in_ok-kind_of_word.field-0 c.in_ok-kind.name.now c.in_ok-of.field-0 (numeral_of c.in_ok-kind.bits.now) (numeral_of c.in_ok-kind.value.now) c.in_ok-of-2.field-0 c.in_ok-of-3.field-0 c.in_ok-of.ensures c.in_ok-of-2.ensures c.in_ok-of-3.ensures)
