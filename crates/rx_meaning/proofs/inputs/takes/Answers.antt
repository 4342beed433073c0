use Rattle.std.proofs.Common.{List, length, sym, ap, ◌∙◌, subst}
use Rattle.rx_language.specs.declared.line.Step.{Step}
use Rattle.rx_language.specs.Programs.{Program, kind_at}
use Rattle.rx_language.proofs.Steps.{length-by}
use Rattle.rx_meaning.specs.Operations.{HasBits}
use Rattle.rx_meaning.proofs.LineKinds.{kinds_have_bits}
use Rattle.rx_meaning.proofs.Taken.{inputs_taken}
use Rattle.rx_meaning.proofs.inputs.takes.Goals as goal

pub are_taken-requires-clause-same : goal.are_taken-requires-clause-same
are_taken-requires-clause-same c =
    let p : Program = c.args.circuit.now in
    ap length c.steps.ensures.value ∙ length-by p.width p.lines ∙ sym (ap length c.lines.ensures.value)

pub are_taken-requires-clause-kinds : goal.are_taken-requires-clause-kinds
are_taken-requires-clause-kinds c i =
    subst (λ (steps : List Step). HasBits (kind_at steps i)) (sym c.steps.ensures.value) (kinds_have_bits c.args.circuit.now c.steps.ensures.lawful i)

pub returns : goal.returns
returns c =
    inputs_taken c.args.circuit.now c.args.inputs.now c.lines.result.now c.steps.result.now c.lines.ensures.value c.steps.ensures.value c.are_taken.result c.are_taken.ensures
