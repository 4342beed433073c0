use Rattle.std.proofs.Common.{◌≡◌, length, true, false, refl, sym, ◌∙◌}
use Rattle.std.proofs.lemmas.Bool.{lt-ltb, le-ltb}
use Rattle.std.proofs.lemmas.Result.{err_from_is_err_and}
use Rattle.rx_text.specs.Lines.{words_of}
use Rattle.rx_circuit.specs.Values.{has_name, spelled_line}
use Rattle.rx_circuit.proofs.Lines.{after_err, after_ok}
use Rattle.rx_circuit.proofs.reading.value_line.Goals as goal

pub returns-in_err-value-clause-value : goal.returns-in_err-value-clause-value
returns-in_err-value-clause-value c =
    let p = err_from_is_err_and c.from_residual-in_err-value.result c.from_residual-in_err-value.ensures.1 in
    let read = sym c.in_ok-spelled.ensures.ok_part ∙ c.of.ensures in
    rw (p.1, p.2) (after_err c.args.before.now (spelled_line (words_of c.args.line.now)) c.in_ok-spelled.spelled c.in_err-value.field-0.0 read c.in_err-value.ensures)

pub returns-then-is_taken-clause-value : goal.returns-then-is_taken-clause-value
returns-then-is_taken-clause-value c =
    let read = sym c.in_ok-spelled.ensures.ok_part ∙ c.of.ensures in
    let placed = after_ok c.args.before.now (spelled_line (words_of c.args.line.now)) c.in_ok-spelled.spelled c.in_ok-value.value read c.in_ok-value.ensures in
    let taken : has_name c.in_ok-value.value.name c.args.before.now ≡ true = sym c.is_taken.ensures ∙ c.if-is_taken.true in
    rw (placed, taken) refl

pub returns-then-before-ge-MOST_LINES-clause-value : goal.returns-then-before-ge-MOST_LINES-clause-value
returns-then-before-ge-MOST_LINES-clause-value c =
    let read = sym c.in_ok-spelled.ensures.ok_part ∙ c.of.ensures in
    let placed = after_ok c.args.before.now (spelled_line (words_of c.args.line.now)) c.in_ok-spelled.spelled c.in_ok-value.value read c.in_ok-value.ensures in
    let new : has_name c.in_ok-value.value.name c.args.before.now ≡ false = sym c.is_taken.ensures ∙ c.if-is_taken.false in
    let full = le-ltb (length c.args.before.now) 64 c.if-before-ge-MOST_LINES.true in
    rw (placed, new, full) refl

pub returns-clause-value : goal.returns-clause-value
returns-clause-value c =
    let read = sym c.in_ok-spelled.ensures.ok_part ∙ c.of.ensures in
    let placed = after_ok c.args.before.now (spelled_line (words_of c.args.line.now)) c.in_ok-spelled.spelled c.in_ok-value.value read c.in_ok-value.ensures in
    let new : has_name c.in_ok-value.value.name c.args.before.now ≡ false = sym c.is_taken.ensures ∙ c.if-is_taken.false in
    let room = lt-ltb (length c.args.before.now) 64 c.if-before-ge-MOST_LINES.false in
    rw (placed, new, room) refl
