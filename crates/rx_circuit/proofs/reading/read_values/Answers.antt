use Rattle.std.proofs.Common.{List, Result, Ok, Err}
use Rattle.std.proofs.lemmas.Result.{err_from_is_err_and}
use Rattle.rx_language.specs.declared.error.ParseError.{ParseError}
use Rattle.rx_circuit.specs.declared.values.ValueLine.{ValueLine}
use Rattle.rx_circuit.proofs.RoundTrip.{TextLaws, only_by, values_found}
use Rattle.rx_circuit.proofs.reading.read_values.Goals as goal

pub returns-in_err-lines-clause-only : goal.returns-in_err-lines-clause-only
returns-in_err-lines-clause-only c =
    let laws : TextLaws = record { numerals = c.numeral_laws.ensures; texts = c.word_laws.ensures; lines = c.line_laws.ensures } in
    let p = err_from_is_err_and c.from_residual.result c.from_residual.ensures.1 in
    let failed : Result (List ValueLine) ParseError = Err c.in_err-lines.field-0.0 in
    rw (p.1, p.2) (only_by laws c.args.bytes.now failed c.in_err-lines.ensures)

pub invariant_of-result : goal.invariant_of-result
invariant_of-result c =
    let laws : TextLaws = record { numerals = c.numeral_laws.ensures; texts = c.word_laws.ensures; lines = c.line_laws.ensures } in
    (values_found laws c.args.bytes.now c.in_ok-lines.lines.items c.in_ok-lines.ensures).fits

pub returns-clause-found : goal.returns-clause-found
returns-clause-found c =
    let laws : TextLaws = record { numerals = c.numeral_laws.ensures; texts = c.word_laws.ensures; lines = c.line_laws.ensures } in
    values_found laws c.args.bytes.now c.in_ok-lines.lines.items c.in_ok-lines.ensures

pub returns-clause-only : goal.returns-clause-only
returns-clause-only c =
    let laws : TextLaws = record { numerals = c.numeral_laws.ensures; texts = c.word_laws.ensures; lines = c.line_laws.ensures } in
    let read : Result (List ValueLine) ParseError = Ok c.in_ok-lines.lines.items in
    only_by laws c.args.bytes.now read c.in_ok-lines.ensures
