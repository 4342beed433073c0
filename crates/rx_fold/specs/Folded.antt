-- The folded net: of equal jobs the first stands for all, and a job that no output needs is left out.
use Rattle.std.specs.Prelude.{ℕ, zero, suc, ◌+◌, ◌-◌, ◌==◌, nat_lt, Bool, ◌&&◌, ◌||◌, cond, List, [], ◌∷◌, ◌++◌, map}
use Rattle.std.specs.List.{position_or_len, list_any}
use Rattle.rx_net.specs.declared.term.Term.{Term}
use Rattle.rx_net.specs.declared.net.Job.{Job}
use Rattle.rx_net.specs.declared.net.NetOutput.{NetOutput}
use Rattle.rx_net.specs.declared.net.Net.{Net}
use Rattle.rx_net.specs.Cells.{input_cells, laid}
use Rattle.rx_fold.specs.Jobs.{moved, moved_output, are_equal, job_at}

abbrev pub input_count : Net → ℕ
input_count net = input_cells net.space net.inputs

-- ---- the cell that stands for a cell, where n cells are those of inputs

-- An input's cell stands for itself. For a job's cell stands that of the first of the jobs that equals it, where in all of them
-- each cell is already replaced by the one that stands for it.
unfoldable pub rep_among : ℕ → List Job → ℕ → ℕ
rep_among n merged c = cond (nat_lt c n) c (n + position_or_len (are_equal (job_at merged (c - n))) merged)

-- the jobs, job after job, with each cell replaced by the one that stands for it
unfoldable pub merged_by : ℕ → List Job → List Job
merged_by n jobs = laid (λ job merged. moved (rep_among n merged) job) [] jobs

abbrev pub merged : Net → List Job
merged net = merged_by (input_count net) net.jobs

-- the cell that stands for the cell c
unfoldable pub rep : Net → ℕ → ℕ
rep net c = rep_among (input_count net) (merged net) c

-- ---- the cells that outputs need

abbrev pub names : Job → ℕ → Bool
names job x = list_any (λ (t : Term). t.cell == x) job.terms

abbrev pub names_any : List ℕ → ℕ → Bool
names_any cells x = list_any (λ c. c == x) cells

-- whether the cell x is one of these, or is named by a job that is needed; the first of the jobs has the cell c
unfoldable pub is_needed : List ℕ → ℕ → List Job → ℕ → Bool
is_needed cells c [] x = names_any cells x
is_needed cells c (j ∷ js) x = is_needed cells (suc c) js x || (is_needed cells (suc c) js c && names j x)

-- the cells of the outputs
abbrev pub cells_given : List NetOutput → List ℕ
cells_given [] = []
cells_given (o ∷ os) = o.cells ++ cells_given os

-- the cells that stand for those of the outputs, and with a job's cell those that stand for the cells of its terms
unfoldable pub is_live : Net → ℕ → Bool
is_live net x = is_needed (map (rep net) (cells_given net.outputs)) (input_count net) (merged net) x

-- ---- the cells that are kept, and their numbers

-- all input cells, and each job's cell that stands for itself and is live
unfoldable pub is_kept : Net → ℕ → Bool
is_kept net c = nat_lt c (input_count net) || ((rep net c == c) && is_live net c)

-- the number of cells below c that are kept: the new number of c
unfoldable pub numbered : (ℕ → Bool) → ℕ → ℕ
numbered kept zero = 0
numbered kept (suc c) = cond (kept c) (suc (numbered kept c)) (numbered kept c)

-- those of the jobs whose cells are kept; the first of them has the cell c
unfoldable pub kept_of : (ℕ → Bool) → ℕ → List Job → List Job
kept_of kept c [] = []
kept_of kept c (j ∷ js) = cond (kept c) (j ∷ kept_of kept (suc c) js) (kept_of kept (suc c) js)

-- the new number of the cell that stands for the cell c
unfoldable pub anew : Net → ℕ → ℕ
anew net c = numbered (is_kept net) (rep net c)

unfoldable pub folded_jobs : Net → List Job
folded_jobs net = map (moved (anew net)) (kept_of (is_kept net) (input_count net) net.jobs)

unfoldable pub folded : Net → Net
folded net = record { space = net.space; inputs = net.inputs; jobs = folded_jobs net; outputs = map (moved_output (anew net)) net.outputs }
