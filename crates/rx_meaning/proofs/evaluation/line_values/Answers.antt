use Rattle.std.proofs.Common.{◌≡◌, ℕ, ◌+◌, ◌<◌, List, [], ◌∷◌, ◌++◌, length, drop, sym, ap, ◌∙◌, subst, arith}
use Rattle.rx_language.specs.declared.line.Line.{Line}
use Rattle.rx_language.specs.declared.line.Step.{Step}
use Rattle.rx_meaning.specs.declared.operand.Operand.{Operand}
use Rattle.rx_meaning.specs.Values.{AreHeld, value_after, given_to, values_from}
use Rattle.rx_meaning.proofs.Walks.{held_push, values_more, values_end, next_near}
use Rattle.rx_meaning.proofs.evaluation.line_values.Goals as goal

pub loop-place-preserved : goal.loop-place-preserved
loop-place-preserved c =
    let h = c.loop-place.invariant in
    let inputs : List ℕ = c.args.inputs.now in
    let done : List Operand = c.loop-place.values.items in
    let place : ℕ = c.loop-place.place in
    let next : ℕ = c.loop-place.next in
    let x : Line = c.index-lines-place.result in
    let s : Step = c.index-steps-place.result in
    let v : Operand = c.value_after-line_value.result in
    let lines : List Line = drop (place + 1) c.args.lines.now in
    let steps : List Step = drop (place + 1) c.args.steps.now in
    let g : v ≡ value_after done (given_to inputs next x) x s =
    c.value_after-line_value.ensures.value
    ∙ ap (λ before. value_after before c.given_to-given.result x s) c.deref.ensures.value
    ∙ ap (λ given. value_after done given x s) c.given_to-given.ensures
    in
    let within : place < length c.args.steps.now = omega (arith, c.requires.same) in
    let m = values_more inputs done next c.args.lines.now c.args.steps.now place x s v c.loop-place-test.true within c.index-lines-place.is c.index-steps-place.is g in
    let items : c.push.new.self.items ≡ done ++ v ∷ [] = c.in_ok-push.ensures.items in
    record {
      whole =
          ap (λ values. values ++ values_from inputs values c.next_after-next.result lines steps) items
          ∙ ap (λ n. (done ++ v ∷ []) ++ values_from inputs (done ++ v ∷ []) n lines steps) c.next_after-next.ensures
          ∙ sym m
          ∙ h.whole;
      held = subst AreHeld (sym items) (held_push done v h.held c.value_after-line_value.ensures.held);
      few = omega (arith, c.next_after-next.ensures, next_near next x, h.few);
    }

pub returns : goal.returns
returns c =
    sym (values_end c.args.inputs.now c.loop-place.values.items c.loop-place.next c.args.lines.now c.args.steps.now c.loop-place.place c.loop-place-test.false)
    ∙ c.loop-place.invariant.whole
