-- What the passes over a net give: lists with an entry for each cell.
use Rattle.std.specs.Prelude.{◌≡◌, ℕ, ℤ, ◌+◌, ◌<◌, Bool, false, List, length, map, get_or}
use Rattle.std.specs.Option.{option_map}
use Rattle.std.specs.List.{AllByRecursion, position}
use Rattle.std.specs.declared.cmp.Ordering.{Ordering}
use Rattle.std.specs.Ordering.{nat_cmp, int_cmp, ordering_then}
use Rattle.std.specs.Cmp.Lexicographic.{slice_cmp}
use Rattle.std.specs.BTreeMap.{BTreeMap, get}
use Rattle.rx_net.specs.declared.term.Term.{Term}
use Rattle.rx_net.specs.declared.net.Job.{Job}
use Rattle.rx_fold.specs.declared.keys.Key.{Key}
use Rattle.rx_fold.specs.Jobs.{are_equal, job_at}

-- the list has the entries that f gives for the numbers below n
pub record Tells {A : Type 0} (d : A) (f : ℕ → A) (n : ℕ) (xs : List A) : Type 0 where
  pub count : length xs ≡ n
  pub each : (c : ℕ) → c < n → get_or xs c d ≡ f c

abbrev pub cell_in : List ℕ → ℕ → ℕ
cell_in cells c = get_or cells c 0

abbrev pub is_marked : List Bool → ℕ → Bool
is_marked marks c = get_or marks c false

-- each entry is the place of one
abbrev pub AreWithin : List ℕ → Type 0
AreWithin cells = (c : ℕ) → c < length cells → cell_in cells c < length cells

-- each of the jobs, of which the first has the cell n, names earlier cells alone
abbrev pub AreForward : ℕ → List Job → Type 0
AreForward n jobs = (i : ℕ) → i < length jobs → AllByRecursion (λ (t : Term). t.cell < n + i) (job_at jobs i).terms

-- ---- keys

abbrev pub term_of : ℕ × ℤ → Term
term_of p = record { cell = p.0; weight = p.1 }

-- the job that a key is of, but for its degree
abbrev pub job_of : Key → Job
job_of k = record { terms = map term_of k.terms.items; constant = k.constant; table = k.table.items; degree = 0 }

abbrev pub term_cmp : ℕ × ℤ → ℕ × ℤ → Ordering
term_cmp p q = ordering_then (nat_cmp p.0 q.0) (int_cmp p.1 q.1)

-- the order of keys
abbrev pub key_cmp : Key → Key → Ordering
key_cmp a b = ordering_then (slice_cmp term_cmp a.terms.items b.terms.items)
    (ordering_then (int_cmp a.constant b.constant) (slice_cmp nat_cmp a.table.items b.table.items))

-- the map has for each key the cell of the first of the jobs that equal its job, where the first of all has the cell n
abbrev pub TellsFirsts : ℕ → List Job → BTreeMap Key ℕ → Type 0
TellsFirsts n jobs firsts = (k : Key) → get key_cmp firsts k ≡ option_map (λ i. n + i) (position (are_equal (job_of k)) jobs)
