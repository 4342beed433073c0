-- The numbers of a job fit the types that hold them.
use Rattle.std.specs.Prelude.{◌<◌, ◌^◌}
use Rattle.std.specs.List.{AllByRecursion}
use Rattle.std.specs.Int.{w8, w16}
use Rattle.std.specs.Int.RustNames.{FitsSigned}
use Rattle.rx_net.specs.declared.term.Term.{Term}
use Rattle.rx_net.specs.declared.net.Job.{Job}

pub record IsNarrow (j : Job) : Type 0 where
  pub cells : AllByRecursion (λ (t : Term). t.cell < 2 ^ 32) j.terms
  pub weights : AllByRecursion (λ (t : Term). FitsSigned w8 t.weight) j.terms
  pub constant : FitsSigned w16 j.constant
  pub table : AllByRecursion (λ entry. entry < 2 ^ 8) j.table
  pub degree : j.degree < 2 ^ 8
