use Rattle.std.proofs.Common.{◌≡◌, List, ℕ}
use Rattle.rx_net.specs.declared.net.Net.{Net}
use Rattle.rx_language.specs.Programs.{Program}
use Rattle.rx_compile.specs.States.{Holds, outputs_before}
use Rattle.rx_compile.proofs.giving.give_outputs.Given as goal

-- the outputs of the lines so far are given out, and the net holds all lines
pub record GivesSoFar (p : Program) (net : Net) (names : List (List ℕ)) (place : ℕ) : Type 0 where
  pub holds : Holds p net names
  pub given : net.outputs ≡ outputs_before p names place

abbrev pub invariant-loop-place : goal.invariant-loop-place
invariant-loop-place l = GivesSoFar l.circuit l.pen l.cells l.place
