-- What is added to a net under construction, and the first fault of the net with the addition.
use Rattle.std.specs.Prelude.{ℕ, ℤ, ◌≡◌, List, [], ◌∷◌, ◌++◌, Option, Some, None, Result, Ok, Err}
use Rattle.rx_net.specs.declared.term.Term.{Term}
use Rattle.rx_net.specs.declared.net.Job.{Job}
use Rattle.rx_net.specs.declared.net.NetInput.{NetInput}
use Rattle.rx_net.specs.declared.net.NetOutput.{NetOutput}
use Rattle.rx_net.specs.declared.net.Net.{Net}
use Rattle.rx_net.specs.declared.fault.NetFault.{NetFault}
use Rattle.rx_net.specs.declared.pen.PenError.{PenError}
use Rattle.rx_net.specs.declared.pen.PenError.TheVariants.{Net as Refusal, Memory}
use Rattle.rx_net.specs.Cells.{degree}
use Rattle.rx_net.specs.Legal.{reached}

abbrev pub empty_net : ℕ → Net
empty_net space = record { space = space; inputs = []; jobs = []; outputs = [] }

abbrev pub with_input : Net → NetInput → Net
with_input net i = record net { inputs = net.inputs ++ i ∷ [] }

-- the job declares the degree that it reaches
abbrev pub new_job : Net → List Term → ℤ → List ℕ → Job
new_job net terms constant table =
    record { terms = terms; constant = constant; table = table; degree = reached (degree net) terms constant table }

abbrev pub with_job : Net → List Term → ℤ → List ℕ → Net
with_job net terms constant table = record net { jobs = net.jobs ++ new_job net terms constant table ∷ [] }

abbrev pub with_output : Net → NetOutput → Net
with_output net o = record net { outputs = net.outputs ++ o ∷ [] }

-- what a call answers that adds: a fault exactly where the net with the addition has that first fault, want of memory apart
abbrev pub Tells : {A : Type 0} → Result A PenError → Option NetFault → Type 0
Tells (Ok x) fault = fault ≡ None
Tells (Err (Refusal told)) fault = fault ≡ Some told
Tells (Err Memory) fault = Unit {0}
