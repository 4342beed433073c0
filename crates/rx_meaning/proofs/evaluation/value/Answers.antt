use Rattle.std.proofs.Common.{◌≡◌, ℕ, List, [], length, sym, ap, ◌∙◌, subst}
use Rattle.std.proofs.lemmas.Result.{IfOk-weaker}
use Rattle.rx_language.specs.declared.line.Line.{Line}
use Rattle.rx_language.specs.declared.line.Step.{Step}
use Rattle.rx_language.specs.Programs.{Program, kind_at, steps_of, outputs_of}
use Rattle.rx_language.proofs.Steps.{length-by}
use Rattle.rx_meaning.specs.declared.operand.Operand.{Operand}
use Rattle.rx_meaning.specs.Operations.{HasBits}
use Rattle.rx_meaning.specs.Values.{AreWithin, outputs_for, values_from, given_out}
use Rattle.rx_meaning.proofs.LineKinds.{kinds_have_bits}
use Rattle.rx_meaning.proofs.Ports.{values_count, outputs_within}
use Rattle.rx_meaning.proofs.evaluation.value.Goals as goal

as_many : (steps steps' : List Step) (lines lines' : List Line) → steps ≡ steps' → lines ≡ lines' → length steps' ≡ length lines' → length steps ≡ length lines
as_many steps steps' lines lines' e f h = ap length e ∙ h ∙ sym (ap length f)

pub line_values-requires-clause-same : goal.line_values-requires-clause-same
line_values-requires-clause-same c =
    let p : Program = c.args.circuit.now in
    as_many c.steps.result.now (steps_of p) c.lines.result.now p.lines c.steps.ensures.value c.lines.ensures.value (length-by p.width p.lines)

pub line_values-requires-clause-kinds : goal.line_values-requires-clause-kinds
line_values-requires-clause-kinds c i =
    subst (λ (steps : List Step). HasBits (kind_at steps i)) (sym c.steps.ensures.value) (kinds_have_bits c.args.circuit.now c.steps.ensures.lawful i)

pub outputs-requires : goal.outputs-requires
outputs-requires c =
    let p : Program = c.args.circuit.now in
    let same = as_many c.steps.result.now (steps_of p) c.lines.result.now p.lines c.steps.ensures.value c.lines.ensures.value (length-by p.width p.lines) in
    ap length (c.deref.ensures.value ∙ c.in_ok-values.ensures)
    ∙ values_count c.args.inputs.now [] 0 c.lines.result.now c.steps.result.now same
    ∙ ap length (c.lines.ensures.value ∙ sym c.lines-2.ensures.value)

-- what is given out, over what the calls gave
given : (p : Program) (inputs : List ℕ) (lines lines' : List Line) (steps : List Step) (values : List Operand) (xs : List ℕ) → lines ≡ p.lines → lines' ≡ p.lines → steps ≡ steps_of p
    → values ≡ values_from inputs [] 0 lines steps → xs ≡ given_out lines' values → xs ≡ outputs_for p inputs
unfolding outputs_for
given p inputs lines lines' steps values xs e f g h k =
    k ∙ ap (λ ls. given_out ls values) f
    ∙ ap (given_out p.lines) (h ∙ ap (λ ls. values_from inputs [] 0 ls steps) e ∙ ap (values_from inputs [] 0 p.lines) g)

pub returns-clause-value : goal.returns-clause-value
returns-clause-value c =
    IfOk-weaker c.outputs.result _ _
    (λ v e. given c.args.circuit.now c.args.inputs.now c.lines.result.now c.lines-2.result.now c.steps.result.now c.deref.result.now v.items
    c.lines.ensures.value c.lines-2.ensures.value c.steps.ensures.value (c.deref.ensures.value ∙ c.in_ok-values.ensures) e)
    c.outputs.ensures

pub returns-clause-within : goal.returns-clause-within
returns-clause-within c =
    IfOk-weaker c.outputs.result _ _
    (λ v e. subst (AreWithin (outputs_of c.args.circuit.now))
    (sym (given c.args.circuit.now c.args.inputs.now c.lines.result.now c.lines-2.result.now c.steps.result.now c.deref.result.now v.items
    c.lines.ensures.value c.lines-2.ensures.value c.steps.ensures.value (c.deref.ensures.value ∙ c.in_ok-values.ensures) e))
    (outputs_within c.args.circuit.now c.args.inputs.now))
    c.outputs.ensures
