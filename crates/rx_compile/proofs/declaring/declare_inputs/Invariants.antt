use Rattle.std.proofs.Common.{◌≡◌, ℕ, ◌<◌, List, length, get_or}
use Rattle.rx_net.specs.declared.net.Net.{Net}
use Rattle.rx_language.specs.Programs.{Program}
use Rattle.rx_compile.specs.States.{first_cell, inputs_net}
use Rattle.rx_compile.proofs.declaring.declare_inputs.Given as goal

-- the inputs of the lines so far are declared, and their first cells are known
pub record AreSoFar (p : Program) (net : Net) (firsts : List ℕ) (place : ℕ) : Type 0 where
  pub net_is : net ≡ inputs_net p place
  pub count : length firsts ≡ place
  pub each : (k : ℕ) → k < length firsts → get_or firsts k 0 ≡ first_cell p k

abbrev pub invariant-loop-place : goal.invariant-loop-place
invariant-loop-place l = AreSoFar l.circuit l.pen l.firsts.items l.place
