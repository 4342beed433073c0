use Rattle.std.proofs.Common.{ℕ, ◌+◌, ◌<◌, List, Option, Bool, length, drop, sym, ap, ◌∙◌, arith}
use Rattle.rx_language.specs.declared.line.Line.{Line}
use Rattle.rx_language.specs.declared.line.Step.{Step}
use Rattle.rx_meaning.specs.Inputs.{taken_after, is_taken_from}
use Rattle.rx_meaning.proofs.Taken.{taken_more, taken_end}
use Rattle.rx_meaning.proofs.inputs.are_taken.Goals as goal

pub loop-place-preserved : goal.loop-place-preserved
loop-place-preserved c =
    let place : ℕ = c.loop-place.place in
    let inputs : List ℕ = c.args.inputs.now in
    let lines : List Line = c.args.lines.now in
    let steps : List Step = c.args.steps.now in
    let within : place < length steps = omega (arith, c.requires.same) in
    let rest : Option ℕ → Bool = λ next. is_taken_from inputs next (drop (place + 1) lines) (drop (place + 1) steps) in
    let x : Line = c.index-lines-place.result in
    ap rest c.taken_after-next.ensures
    ∙ ap (λ (s : Step). rest (taken_after inputs c.loop-place.next x s.kind)) (sym c.index-steps-place.is)
    ∙ sym (taken_more inputs c.loop-place.next lines steps place x c.index-steps-place.result c.loop-place-test.true within c.index-lines-place.is c.index-steps-place.is)
    ∙ c.loop-place.invariant

pub returns : goal.returns
returns c =
    c.eq.ensures
    ∙ sym (taken_end c.args.inputs.now c.loop-place.next c.args.lines.now c.args.steps.now c.loop-place.place c.loop-place-test.false) ∙ c.loop-place.invariant
