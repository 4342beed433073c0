use Rattle.rx_language.specs.Programs.{inputs_of}
use Rattle.rx_language.proofs.Steps.{length-by}
use Rattle.rx_circuit.proofs.Ports.{are_within}
use Rattle.rx_circuit.proofs.inputs.find_inputs.Goals as goal

pub find_each-requires : goal.find_each-requires
find_each-requires c =
    let p = c.args.circuit.now in
    rw (c.steps.ensures.value, c.lines.ensures.value) (length-by p.width p.lines)

pub returns-clause-within : goal.returns-clause-within
returns-clause-within c =
    let found = rw (c.lines.ensures.value, c.steps.ensures.value, c.lines-2.ensures.lines) at c.in_ok-inputs.ensures in
    are_within c.args.values.now c.lines-2.ensures.values.each (inputs_of c.args.circuit.now) c.in_ok-inputs.inputs.items found
