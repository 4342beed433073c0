use Rattle.std.proofs.Common.{◌≡◌, [], ◌∷◌, sym, ap, ◌∙◌}
use Rattle.std.proofs.lemmas.Bool.{iff_false}
use Rattle.rx_language.specs.Reading.{program_by}
use Rattle.rx_language.proofs.Lines.{breaks_off}
use Rattle.rx_language.proofs.parsing.read_lines.Goals as goal

pub returns-else-is_done : goal.returns-else-is_done
returns-else-is_done c =
    let p = c.loop-line.draft in
    let one = c.in_default.ensures.last.0 in
    let more : c.loop-line.lines ≡ [] ∷ [] → ⊥ = λ end. iff_false c.is_done.ensures c.if-is_done.false (c.in_default.ensures.last.1 ∙ end) in
    rw (c.fault_of-else-is_done.ensures, c.next_number.ensures)
    (sym c.loop-line.invariant.same ∙ ap (program_by p.space p.width) (breaks_off p.space p.width p.lines c.loop-line.lines one more))
