use Rattle.std.proofs.Common.{◌≡◌, [], ◌∷◌, sym, ap, ◌∙◌}
use Rattle.std.proofs.lemmas.Bool.{iff_false}
use Rattle.rx_circuit.specs.Values.{lines_from, values_from}
use Rattle.rx_circuit.proofs.Loop.{stops, ends, breaks_off}
use Rattle.rx_circuit.proofs.reading.read_lines.Goals as goal

pub returns-in-Err : goal.returns-in-Err
unfolding values_from
returns-in-Err c =
    let before = c.loop-line.values.items in
    let wrong = rw c.deref.ensures.value at c.in-Err.ensures.value in
    let fault = stops before c.in-Some.line.now c.next_line.new.self c.in-Err.cause c.in-Some.ensures.left wrong in
    rw (c.fault_behind.ensures, c.deref-in-Err.ensures.value) (sym c.loop-line.invariant.same ∙ ap (lines_from before) c.in-Some.ensures.line ∙ fault)

pub returns-then-is_done : goal.returns-then-is_done
unfolding values_from
returns-then-is_done c =
    let before = c.loop-line.values.items in
    sym c.loop-line.invariant.same ∙ ends before c.loop-line.lines (sym c.in_default.ensures.last.1 ∙ c.is_done.ensures.0 c.if-is_done.true)

pub returns-else-is_done : goal.returns-else-is_done
unfolding values_from
returns-else-is_done c =
    let before = c.loop-line.values.items in
    let one = c.in_default.ensures.last.0 in
    let more : c.loop-line.lines ≡ [] ∷ [] → ⊥ = λ end. iff_false c.is_done.ensures c.if-is_done.false (c.in_default.ensures.last.1 ∙ end) in
    rw (c.fault_behind-else-is_done.ensures, c.deref-else-is_done.ensures.value)
    (sym c.loop-line.invariant.same ∙ breaks_off before c.loop-line.lines one more)
