use Rattle.rx_tool.specs.Words.{texts}
use Rattle.rx_tool.proofs.RunInputs.{SameSoFar}
use Rattle.rx_tool.proofs.commands.differences.check_sets.Given as goal

abbrev pub invariant-loop-place : goal.invariant-loop-place
invariant-loop-place l = SameSoFar l.set (texts l.names) l.ciphers l.place
