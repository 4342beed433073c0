use Rattle.std.proofs.Common.{◌≡◌, ◌∷◌, ◌++◌, drop}
use Rattle.rx_tool.specs.Words.{texts}
use Rattle.rx_tool.proofs.command.both_and.Given as goal

abbrev pub invariant-loop-word : goal.invariant-loop-word
invariant-loop-word l = l.names.items ++ texts (drop l.word-index l.word-items) ≡ l.first ∷ l.second ∷ l.others
