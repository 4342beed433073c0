use Rattle.std.proofs.Common.{◌≡◌, List, ℕ, [], length}
use Rattle.rx_net.specs.declared.net.Net.{Net}
use Rattle.rx_language.specs.Programs.{Program}
use Rattle.rx_compile.specs.States.{Holds}
use Rattle.rx_compile.proofs.planning.plan_lines.Given as goal

-- the net holds the lines so far, and gives nothing out
pub record HoldsSoFar (p : Program) (net : Net) (names : List (List ℕ)) (place : ℕ) : Type 0 where
  pub count : length names ≡ place
  pub holds : Holds p net names
  pub blank : net.outputs ≡ []

abbrev pub invariant-loop-place : goal.invariant-loop-place
invariant-loop-place l = HoldsSoFar l.circuit l.pen l.cells.items l.place
