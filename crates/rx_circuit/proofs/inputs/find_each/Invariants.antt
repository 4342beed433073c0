use Rattle.std.proofs.Common.{◌≡◌, drop}
use Rattle.rx_language.specs.Words.{is_input}
use Rattle.rx_language.specs.Programs.{ports_in}
use Rattle.rx_circuit.specs.Inputs.{found_after, found_inputs}
use Rattle.rx_circuit.proofs.inputs.find_each.Given as goal

-- what was found, and what the lines that are left ask for, are all of it
abbrev pub invariant-loop-place : goal.invariant-loop-place
invariant-loop-place l =
    found_after l.inputs.items (ports_in is_input (drop l.place l.lines) (drop l.place l.steps)) l.values ≡ found_inputs (ports_in is_input l.lines l.steps) l.values
