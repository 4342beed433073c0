use Rattle.std.proofs.Common.{◌≡◌, ◌++◌, drop, string_bytes}
use Rattle.rx_circuit.specs.Outputs.{number_lines}
use Rattle.rx_circuit.proofs.outputs.lines_of.Given as goal

abbrev pub invariant-loop-place : goal.invariant-loop-place
invariant-loop-place l = string_bytes l.text ++ number_lines (drop l.place l.names) (drop l.place l.numbers) ≡ number_lines l.names l.numbers
