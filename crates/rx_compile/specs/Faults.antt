-- When a circuit is not compiled.
use Rattle.std.specs.Prelude.{◌<◌, ◌≤◌, ◌≡◌, Result, Ok, Err}
use Rattle.rx_net.specs.Limits.{most_jobs}
use Rattle.rx_language.specs.Programs.{Program}
use Rattle.rx_meaning.specs.Bounds.{jobs_of}
use Rattle.rx_compile.specs.declared.fault.CompileFault.{CompileFault}
use Rattle.rx_compile.specs.declared.fault.CompileFault.TheVariants.{Jobs, Memory}

-- a fault tells the job bound where that is above the limit, and only there; else memory was wanted
abbrev pub IsFault : Program → CompileFault → Type 0
IsFault p (Jobs bound) = (bound ≡ jobs_of p) × (most_jobs < bound)
IsFault p Memory = jobs_of p ≤ most_jobs

abbrev pub FaultIs : {A : Type 0} → Program → Result A CompileFault → Type 0
FaultIs p (Ok net) = Unit {0}
FaultIs p (Err fault) = IsFault p fault
