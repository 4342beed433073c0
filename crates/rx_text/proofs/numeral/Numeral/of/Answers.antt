use Rattle.std.proofs.Common.{sym}
use Rattle.rx_text.proofs.NumeralLemmas.{numeral_is_text, beyond}
use Rattle.rx_text.proofs.numeral.Numeral.of.Goals as goal

pub unreachable-requires : goal.unreachable-requires
unreachable-requires c = c.in_default.ensures.cases.0 (numeral_is_text c.args.text.now (sym c.if-not-is_numeral_text.ensures))

pub returns-in-Err : goal.returns-in-Err
returns-in-Err c = beyond c.args.text.now c.in-Err.field-0 (rw c.in-Ok.ensures.cases.0 at c.in-Err.ensures.value.0) (sym c.if-not-is_numeral_text.ensures)
