use Rattle.rx_tool.specs.Words.{texts}
use Rattle.rx_tool.proofs.RunInputs.{ReadSoFar}
use Rattle.rx_tool.proofs.commands.run_inputs.read_ciphers.Given as goal

abbrev pub invariant-loop-place : goal.invariant-loop-place
invariant-loop-place l = ReadSoFar (texts l.names) l.files l.place l.ciphers.items
