use Rattle.std.proofs.Common.{◌≡◌, ◌++◌, drop}
use Rattle.rx_circuit.specs.Outputs.{output_names}
use Rattle.rx_circuit.proofs.outputs.names_of_outputs.Given as goal

abbrev pub invariant-loop-line : goal.invariant-loop-line
invariant-loop-line l = l.names.items ++ output_names (drop l.line-index l.lines) ≡ output_names l.lines
