use Rattle.std.proofs.Common.{◌≡◌, ◌<◌, ℕ, List, [], length, get_or, sym, ap, ◌∙◌, arith}
use Rattle.std.proofs.lemmas.List.{get_or_default}
use Rattle.rx_language.specs.declared.line.Step.{Step}
use Rattle.rx_language.specs.Programs.{Program, steps_of}
use Rattle.rx_compile.specs.States.{source_at}
use Rattle.rx_compile.proofs.Steps.{steps_there, step_here, kind_read, source_early, lines_few}
use Rattle.rx_compile.proofs.planning.argument.Goals as goal

-- the place that was read, over what the calls gave
read : (p : Program) (steps : List Step) (k i : ℕ) (step : Step) (places : List ℕ) → steps ≡ steps_of p → k < length p.lines → step ≡ get_or steps k step → places ≡ (get_or steps k step).sources
    → get_or places i 0 ≡ source_at p k i
read p steps k i step places e h f g = ap (λ ps. get_or ps i 0) (g ∙ ap (λ (s : Step). s.sources) (sym f ∙ step_here p steps k step e h f))

pub offset_bounds-steps-source : goal.offset_bounds-steps-source
offset_bounds-steps-source c =
    let p : Program = c.args.circuit.now in
    let e = read p c.steps-steps.result.now c.args.place c.args.number c.index-steps-place.result c.as_slice.result.now c.steps-steps.ensures.value c.requires.there c.index-steps-place.is c.as_slice.ensures in
    let l : source_at p c.args.place c.args.number < c.args.place = source_early p c.args.place c.args.number c.steps-steps.ensures.lawful c.requires.there c.requires.number in
    record { fits = omega (arith, e, l, c.requires.there, lines_few p c.steps-steps.ensures.lawful) }

pub bounds-steps-source : goal.bounds-steps-source
bounds-steps-source c =
    let p : Program = c.args.circuit.now in
    let e = read p c.steps-steps.result.now c.args.place c.args.number c.index-steps-place.result c.as_slice.result.now c.steps-steps.ensures.value c.requires.there c.index-steps-place.is c.as_slice.ensures in
    let l : source_at p c.args.place c.args.number < c.args.place = source_early p c.args.place c.args.number c.steps-steps.ensures.lawful c.requires.there c.requires.number in
    omega (arith, e, l, steps_there p c.steps-steps.result.now c.args.place c.steps-steps.ensures.value c.requires.there)

pub bounds-steps-source-2 : goal.bounds-steps-source-2
bounds-steps-source-2 c = bounds-steps-source c

pub offset_bounds-cells-source : goal.offset_bounds-cells-source
offset_bounds-cells-source c =
    let p : Program = c.args.circuit.now in
    let e = read p c.steps-steps.result.now c.args.place c.args.number c.index-steps-place.result c.as_slice.result.now c.steps-steps.ensures.value c.requires.there c.index-steps-place.is c.as_slice.ensures in
    let l : source_at p c.args.place c.args.number < c.args.place = source_early p c.args.place c.args.number c.steps-steps.ensures.lawful c.requires.there c.requires.number in
    record { fits = omega (arith, e, l, c.requires.there, lines_few p c.steps-steps.ensures.lawful) }

pub bounds-cells-source : goal.bounds-cells-source
bounds-cells-source c =
    let p : Program = c.args.circuit.now in
    let e = read p c.steps-steps.result.now c.args.place c.args.number c.index-steps-place.result c.as_slice.result.now c.steps-steps.ensures.value c.requires.there c.index-steps-place.is c.as_slice.ensures in
    let l : source_at p c.args.place c.args.number < c.args.place = source_early p c.args.place c.args.number c.steps-steps.ensures.lawful c.requires.there c.requires.number in
    omega (arith, e, l, c.requires.count)

pub returns-clause-kind : goal.returns-clause-kind
returns-clause-kind c =
    let p : Program = c.args.circuit.now in
    let k : ℕ = c.args.place in
    let e = read p c.steps-steps.result.now k c.args.number c.index-steps-place.result c.as_slice.result.now c.steps-steps.ensures.value c.requires.there c.index-steps-place.is c.as_slice.ensures in
    let l : source_at p k c.args.number < k = source_early p k c.args.number c.steps-steps.ensures.lawful c.requires.there c.requires.number in
    ap (λ i. (get_or c.steps-steps.result.now i c.index-steps-source.result).kind) e
    ∙ kind_read p c.steps-steps.result.now (source_at p k c.args.number) c.index-steps-source.result c.steps-steps.ensures.value (omega (arith, l, c.requires.there))

pub returns-clause-cells : goal.returns-clause-cells
returns-clause-cells c =
    let p : Program = c.args.circuit.now in
    let k : ℕ = c.args.place in
    let e = read p c.steps-steps.result.now k c.args.number c.index-steps-place.result c.as_slice.result.now c.steps-steps.ensures.value c.requires.there c.index-steps-place.is c.as_slice.ensures in
    let l : source_at p k c.args.number < k = source_early p k c.args.number c.steps-steps.ensures.lawful c.requires.there c.requires.number in
    let there : get_or c.as_slice.result.now c.args.number 0 < length c.args.cells.now = omega (arith, e, l, c.requires.count) in
    c.as_slice-2.ensures
    ∙ c.index-cells-source.is
    ∙ get_or_default c.args.cells.now (get_or c.as_slice.result.now c.args.number 0) c.index-cells-source.result [] there
    ∙ ap (λ i. get_or c.args.cells.now i []) e
