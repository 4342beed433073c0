use Rattle.std.proofs.Common.{◌≡◌, ◌++◌, drop}
use Rattle.rx_meaning.specs.Values.{given_out}
use Rattle.rx_meaning.proofs.evaluation.outputs.Given as goal

abbrev pub invariant-loop-place : goal.invariant-loop-place
invariant-loop-place l = l.outputs.items ++ given_out (drop l.place l.lines) (drop l.place l.values) ≡ given_out l.lines l.values
