-- The cells of a net: those of its inputs, and then one for each job. All that is said of cells is one fold over the jobs.
use Rattle.std.specs.Prelude.{ℕ, suc, ◌+◌, ◌<◌, ◌≤◌, ◌≡◌, List, [], ◌∷◌, ◌++◌, length, map, get_or, replicate}
use Rattle.rx_params.specs.Kinds.{block_count}
use Rattle.rx_net.specs.declared.term.Term.{Term}
use Rattle.rx_net.specs.declared.net.Job.{Job}
use Rattle.rx_net.specs.declared.net.NetInput.{NetInput}
use Rattle.rx_net.specs.declared.net.Net.{Net}
use Rattle.rx_net.specs.Tags.{value_of, greatest_of, natural}

-- the number of input cells
unfoldable pub input_cells : ℕ → List NetInput → ℕ
input_cells space [] = 0
input_cells space (i ∷ is) = block_count i.kind space i.bits + input_cells space is

unfoldable pub cell_count : Net → ℕ
cell_count net = input_cells net.space net.inputs + length net.jobs

-- a number for each input cell, that of its input
unfoldable pub given : ℕ → (NetInput → ℕ) → List NetInput → List ℕ
given space number [] = []
given space number (i ∷ is) = replicate (block_count i.kind space i.bits) (number i) ++ given space number is

-- these cells, and then one for each job, made of the job and the cells before it
unfoldable pub laid : {A : Type 0} → (Job → List A → A) → List A → List Job → List A
laid step cells [] = cells
laid step cells (j ∷ js) = laid step (cells ++ step j cells ∷ []) js

-- ---- values, degrees, noises and depths, for jobs that follow inputs

-- the table's entry at the weighted sum of the values of cells
unfoldable pub job_value : Job → List ℕ → ℕ
job_value job values = get_or job.table (natural (value_of (λ c. get_or values c 0) job.constant job.terms)) 0

abbrev pub declared_degree : Job → List ℕ → ℕ
declared_degree job degrees = job.degree

abbrev pub unit_noise : Job → List ℕ → ℕ
unit_noise job noises = 1

-- one more than the greatest depth of the job's cells, 1 where it has no terms
unfoldable pub one_deeper : Job → List ℕ → ℕ
one_deeper job depths = suc (greatest_of (map (λ t. get_or depths t.cell 0) job.terms))

unfoldable pub values_after : List ℕ → List Job → List ℕ
values_after values jobs = laid job_value values jobs

unfoldable pub degrees_after : ℕ → List NetInput → List Job → List ℕ
degrees_after space inputs jobs = laid declared_degree (given space (λ i. i.degree) inputs) jobs

unfoldable pub noises_after : ℕ → List NetInput → List Job → List ℕ
noises_after space inputs jobs = laid unit_noise (given space (λ i. i.noise) inputs) jobs

unfoldable pub depths_after : ℕ → List NetInput → List Job → List ℕ
depths_after space inputs jobs = laid one_deeper (given space (λ i. 0) inputs) jobs

-- ---- the same of the cells of a net

-- the value of a cell, for values of the input cells
unfoldable pub value : Net → List ℕ → ℕ → ℕ
value net inputs c = get_or (values_after inputs net.jobs) c 0

unfoldable pub degree : Net → ℕ → ℕ
degree net c = get_or (degrees_after net.space net.inputs net.jobs) c 0

unfoldable pub noise : Net → ℕ → ℕ
noise net c = get_or (noises_after net.space net.inputs net.jobs) c 0

unfoldable pub depth : Net → ℕ → ℕ
depth net c = get_or (depths_after net.space net.inputs net.jobs) c 0

-- the greatest depth of a cell; it is 0 for input cells, and so for a net without jobs
unfoldable pub net_depth : Net → ℕ
net_depth net = greatest_of (depths_after net.space net.inputs net.jobs)

-- one value for each input cell, within its degree
pub record Within (space : ℕ) (inputs : List NetInput) (values : List ℕ) : Type 0 where
  pub count : length values ≡ input_cells space inputs
  pub each : (c : ℕ) → c < length values → get_or values c 0 ≤ get_or (given space (λ i. i.degree) inputs) c 0

-- ---- the words of the cells, for a definition that gives a job's words from basis, job and operand words

-- the words of a job's operands, one operand after the other
abbrev pub operand_words : List (List ℕ) → List Term → List ℕ
operand_words cells [] = []
operand_words cells (t ∷ ts) = get_or cells t.cell [] ++ operand_words cells ts

unfoldable pub cells_of : (List ℕ → Job → List ℕ → List ℕ) → List ℕ → Net → List (List ℕ) → List (List ℕ)
cells_of words_of basis net inputs = laid (λ job cells. words_of basis job (operand_words cells job.terms)) inputs net.jobs
