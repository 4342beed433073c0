use Rattle.rx_language.specs.Programs.{outputs_of, steps_of}
use Rattle.rx_language.proofs.Steps.{length-by}
use Rattle.rx_circuit.proofs.Ports.{same_count, names_are}
use Rattle.rx_circuit.proofs.outputs.output_lines.Goals as goal

pub lines_of-requires : goal.lines_of-requires
lines_of-requires c =
    let p = c.args.circuit.now in
    let names = names_are p.lines (steps_of p) (length-by p.width p.lines) in
    rw (c.deref.ensures.value, c.in_ok-names.ensures, c.lines.ensures.value, names) (same_count (outputs_of p) c.args.numbers.now c.requires)

pub returns : goal.returns
returns c =
    let p = c.args.circuit.now in
    let names = names_are p.lines (steps_of p) (length-by p.width p.lines) in
    let written = rw (c.deref.ensures.value, c.in_ok-names.ensures, c.lines.ensures.value, names) at c.lines_of.ensures in
    written
