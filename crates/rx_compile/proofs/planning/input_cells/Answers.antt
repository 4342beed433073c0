use Rattle.std.proofs.Common.{◌≡◌, ℕ, List, get_or, refl, sym, ap, subst, ◌∙◌, arith}
use Rattle.std.specs.List.{range_with_len}
use Rattle.std.proofs.lemmas.Result.{IfOk-weaker}
use Rattle.rx_params.specs.Kinds.{block_count}
use Rattle.rx_net.specs.declared.net.Net.{Net}
use Rattle.rx_language.specs.declared.kind.NameKind.{NameKind}
use Rattle.rx_language.specs.declared.line.Step.{Step}
use Rattle.rx_language.specs.Kinds.{bits_of}
use Rattle.rx_language.specs.Programs.{Program, steps_of}
use Rattle.rx_compile.specs.Compiled.{file_kind}
use Rattle.rx_compile.specs.States.{step_at, first_cell, IsNext, Plans}
use Rattle.rx_compile.proofs.Steps.{steps_there, kind_read}
use Rattle.rx_net.proofs.Limits.{few_input_cells}
use Rattle.rx_compile.proofs.InputCells.{input_room, input_plans}
use Rattle.rx_compile.proofs.planning.input_cells.Goals as goal

pub bounds-steps-place : goal.bounds-steps-place
bounds-steps-place c = steps_there c.args.circuit.now c.steps.result.now c.args.place c.steps.ensures.value c.requires.next.there

pub bounds-steps-place-2 : goal.bounds-steps-place-2
bounds-steps-place-2 c = bounds-steps-place c

-- the number of blocks, over what the calls gave
count_is : (p : Program) (k : ℕ) (net : Net) (names : List (List ℕ)) (next : IsNext p net names k) (steps : List Step) (d : Step) (kind : NameKind) (space bits count : ℕ) → steps ≡ steps_of p
    → kind ≡ (get_or steps k d).kind → space ≡ net.space → bits ≡ bits_of kind → count ≡ block_count (file_kind kind) space bits
    → count ≡ block_count (file_kind (step_at p k).kind) p.space (bits_of (step_at p k).kind)
count_is p k net names next steps d kind space bits count e f g h i =
    let same : kind ≡ (step_at p k).kind = f ∙ kind_read p steps k d e next.there in
    i ∙ ap (block_count (file_kind kind) space) h
    ∙ ap (λ s. block_count (file_kind kind) s (bits_of kind)) (g ∙ next.holds.space_is)
    ∙ ap (λ (kind : NameKind). block_count (file_kind kind) p.space (bits_of kind)) same

pub count_from-requires : goal.count_from-requires
count_from-requires c =
    let p : Program = c.args.circuit.now in
    let k : ℕ = c.args.place in
    let net : Net = c.args.pen.now in
    let d : Step = c.index-steps-place.result in
    let kind : NameKind = (get_or c.steps.result.now k d).kind in
    let n = count_is p k net c.args.cells.now c.requires.next c.steps.result.now d kind c.space.result c.bits.result c.block_count-count.result c.steps.ensures.value refl c.space.ensures.value c.bits.ensures
    (c.block_count-count.ensures ∙ ap (λ f. block_count f c.space.result c.bits.result) c.file_kind.ensures)
    in
    omega (arith, n, c.requires.first, input_room p k net c.args.cells.now c.requires.next c.steps.ensures.lawful c.requires.input, few_input_cells net c.space.ensures.legal.limits)

pub returns : goal.returns
returns c =
    let p : Program = c.args.circuit.now in
    let k : ℕ = c.args.place in
    let net : Net = c.args.pen.now in
    let d : Step = c.index-steps-place.result in
    let kind : NameKind = (get_or c.steps.result.now k d).kind in
    let n = count_is p k net c.args.cells.now c.requires.next c.steps.result.now d kind c.space.result c.bits.result c.block_count-count.result c.steps.ensures.value refl c.space.ensures.value c.bits.ensures
    (c.block_count-count.ensures ∙ ap (λ f. block_count f c.space.result c.bits.result) c.file_kind.ensures)
    in
    IfOk-weaker c.count_from.result _ _
    (λ made e. subst (λ (xs : List ℕ). Plans p k net net xs) (sym (e ∙ ap (λ a. range_with_len a c.block_count-count.result) c.requires.first ∙ ap (range_with_len (first_cell p k)) n))
    (input_plans p k net c.args.cells.now c.requires.next c.steps.ensures.lawful c.requires.input))
    c.count_from.ensures
