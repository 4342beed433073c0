use Rattle.std.proofs.Common.{◌≡◌, Some, drop}
use Rattle.rx_meaning.specs.Inputs.{is_taken_from}
use Rattle.rx_meaning.proofs.inputs.are_taken.Given as goal

abbrev pub invariant-loop-place : goal.invariant-loop-place
invariant-loop-place l = is_taken_from l.inputs l.next (drop l.place l.lines) (drop l.place l.steps) ≡ is_taken_from l.inputs (Some 0) l.lines l.steps
