use Rattle.std.proofs.Common.{Result, Ok, Err}
use Rattle.std.proofs.lemmas.Result.{err_from_is_err_and}
use Rattle.rx_language.specs.declared.error.ParseError.{ParseError}
use Rattle.rx_language.specs.Programs.{Program}
use Rattle.rx_language.proofs.RoundTrip.{TextLaws, circuit_found, only_by}
use Rattle.rx_language.proofs.parsing.parse.Goals as goal

pub returns-in_err-draft-clause-only : goal.returns-in_err-draft-clause-only
returns-in_err-draft-clause-only c =
    let laws : TextLaws = record { numerals = c.numeral_laws.ensures; texts = c.word_laws.ensures; lines = c.line_laws.ensures } in
    let p = err_from_is_err_and c.from_residual.result c.from_residual.ensures.1 in
    let failed : Result Program ParseError = Err c.in_err-draft.field-0.0 in
    rw (p.1, p.2) (only_by laws c.args.bytes.now failed c.in_err-draft.ensures)

pub returns-clause-found : goal.returns-clause-found
returns-clause-found c =
    let laws : TextLaws = record { numerals = c.numeral_laws.ensures; texts = c.word_laws.ensures; lines = c.line_laws.ensures } in
    rw c.finish.ensures (circuit_found laws c.args.bytes.now c.in_ok-draft.draft c.in_ok-draft.ensures)

pub returns-clause-only : goal.returns-clause-only
returns-clause-only c =
    let laws : TextLaws = record { numerals = c.numeral_laws.ensures; texts = c.word_laws.ensures; lines = c.line_laws.ensures } in
    let read : Result Program ParseError = Ok c.in_ok-draft.draft in
    rw c.finish.ensures (only_by laws c.args.bytes.now read c.in_ok-draft.ensures)
