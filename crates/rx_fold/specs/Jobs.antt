-- Jobs over other cells, and equal jobs.
use Rattle.std.specs.Prelude.{◌≡◌, ℕ, pos, Bool, ◌==◌, ◌&&◌, List, [], map, get_or}
use Rattle.std.specs.Cmp.Lexicographic.{pointwise}
use Rattle.std.specs.Ordering.{int_eq}
use Rattle.std.specs.Str.{bytes_eq}
use Rattle.rx_net.specs.declared.term.Term.{Term}
use Rattle.rx_net.specs.declared.net.Job.{Job}
use Rattle.rx_net.specs.declared.net.NetOutput.{NetOutput}

-- ---- with each cell c replaced by f c

abbrev pub moved_term : (ℕ → ℕ) → Term → Term
moved_term f t = record { cell = f t.cell; weight = t.weight }

abbrev pub moved : (ℕ → ℕ) → Job → Job
moved f j = record { terms = map (moved_term f) j.terms; constant = j.constant; table = j.table; degree = j.degree }

abbrev pub moved_output : (ℕ → ℕ) → NetOutput → NetOutput
moved_output f o = record { name = o.name; kind = o.kind; bits = o.bits; cells = map f o.cells }

-- ---- equal jobs

-- the jobs have equal terms, constant and table
pub record AreEqual (i j : Job) : Type 0 where
  pub terms : i.terms ≡ j.terms
  pub constant : i.constant ≡ j.constant
  pub table : i.table ≡ j.table

abbrev pub equal_terms : Term → Term → Bool
equal_terms s t = (s.cell == t.cell) && int_eq s.weight t.weight

-- whether they do
abbrev pub are_equal : Job → Job → Bool
are_equal i j = pointwise equal_terms i.terms j.terms && (int_eq i.constant j.constant && bytes_eq i.table j.table)

abbrev pub no_job : Job
no_job = record { terms = []; constant = pos 0; table = []; degree = 0 }

-- the job of this number
abbrev pub job_at : List Job → ℕ → Job
job_at jobs i = get_or jobs i no_job
