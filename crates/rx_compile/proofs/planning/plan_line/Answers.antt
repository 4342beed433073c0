use Rattle.std.proofs.Common.{◌≡◌, ℕ, ◌<◌, ◌≤◌, false, List, length, get_or, refl, sym, ap, ◌∙◌, arith}
use Rattle.rx_language.specs.declared.line.Line.{Line}
use Rattle.rx_language.specs.declared.line.Step.{Step}
use Rattle.rx_language.specs.Words.{is_output}
use Rattle.rx_language.specs.Programs.{Program, steps_of}
use Rattle.rx_compile.specs.States.{line_at, step_at}
use Rattle.rx_compile.proofs.Places.{args_few}
use Rattle.rx_compile.proofs.Steps.{steps_there, step_here, line_here}
use Rattle.rx_compile.proofs.Wanted.{args_are}
use Rattle.rx_compile.proofs.planning.plan_line.Goals as goal

pub bounds-steps-place : goal.bounds-steps-place
bounds-steps-place c = steps_there c.args.circuit.now c.steps.result.now c.args.place c.steps.ensures.value c.requires.next.there

-- how many there are, over what the calls gave
many : (p : Program) (steps : List Step) (k n : ℕ) (step : Step) (places : List ℕ) → steps ≡ steps_of p → k < length p.lines → step ≡ get_or steps k step → places ≡ (get_or steps k step).sources → length places ≡ n
    → length (step_at p k).sources ≡ n
many p steps k n step places e h f g i = sym (ap length (g ∙ ap (λ (s : Step). s.sources) (sym f ∙ step_here p steps k step e h f))) ∙ i

pub plan_with_one-requires-clause-sources : goal.plan_with_one-requires-clause-sources
plan_with_one-requires-clause-sources c =
    many c.args.circuit.now c.steps.result.now c.args.place 1 c.index-steps-place.result c.as_slice.result.now c.steps.ensures.value c.requires.next.there c.index-steps-place.is c.as_slice.ensures c.in-1.is

pub plan_with_two-requires-clause-sources : goal.plan_with_two-requires-clause-sources
plan_with_two-requires-clause-sources c =
    many c.args.circuit.now c.steps.result.now c.args.place 2 c.index-steps-place.result c.as_slice.result.now c.steps.ensures.value c.requires.next.there c.index-steps-place.is c.as_slice.ensures c.in-2.is

pub plan_with_three-requires-clause-sources : goal.plan_with_three-requires-clause-sources
plan_with_three-requires-clause-sources c =
    many c.args.circuit.now c.steps.result.now c.args.place 3 c.index-steps-place.result c.as_slice.result.now c.steps.ensures.value c.requires.next.there c.index-steps-place.is c.as_slice.ensures c.in-3.is

pub unreachable-requires : goal.unreachable-requires
unreachable-requires c =
    let p : Program = c.args.circuit.now in
    let k : ℕ = c.args.place in
    let line : Line = c.index-lines-place.result in
    let el : line ≡ line_at p k = line_here p c.lines.result.now k line c.lines.ensures.value c.requires.next.there c.index-lines-place.is in
    let inner : is_output (line_at p k).word ≡ false =
    ap (λ (l : Line). is_output l.word) (sym el ∙ c.index-lines-place.is) ∙ sym c.is_output.ensures ∙ c.if-is_output.false
    in
    let same : length (step_at p k).sources ≡ length c.as_slice.result.now =
    many p c.steps.result.now k (length c.as_slice.result.now) c.index-steps-place.result c.as_slice.result.now c.steps.ensures.value c.requires.next.there c.index-steps-place.is c.as_slice.ensures refl
    in
    let few : length c.as_slice.result.now ≤ 3 = omega (arith, same, args_are p k c.lines.ensures.lawful c.requires.next.there inner, args_few (line_at p k).word) in
    grind (arith, c.in_default)
