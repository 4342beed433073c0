-- What is known of a net while a circuit is compiled: after so many lines it holds the value of each.
use Rattle.std.specs.Prelude.{ℕ, ◌+◌, ◌<◌, ◌≤◌, ◌≡◌, List, [], ◌∷◌, length, map, get_or, take, drop, slice_index, if◌then◌else◌}
use Rattle.std.specs.List.{sum_by}
use Rattle.rx_costs.specs.declared.table.Cost.{Cost}
use Rattle.rx_net.specs.declared.net.NetInput.{NetInput}
use Rattle.rx_net.specs.declared.net.NetOutput.{NetOutput}
use Rattle.rx_net.specs.declared.net.Net.{Net}
use Rattle.rx_net.specs.Limits.{most_jobs}
use Rattle.rx_net.specs.Cells.{input_cells, cell_count, depth}
use Rattle.rx_net.specs.Growth.{Extends}
use Rattle.rx_plan.specs.Planned.{Each}
use Rattle.rx_language.specs.declared.word.Word.TheVariants.{Out}
use Rattle.rx_language.specs.declared.line.Line.{Line}
use Rattle.rx_language.specs.declared.line.Step.{Step}
use Rattle.rx_language.specs.Words.{is_input, is_output}
use Rattle.rx_language.specs.Kinds.{bits_of}
use Rattle.rx_language.specs.Programs.{Program, no_step, kind_at, ports_in, steps_of, inputs_of}
use Rattle.rx_meaning.specs.Values.{AreWithin, absent, line_values}
use Rattle.rx_meaning.specs.Costs.{none}
use Rattle.rx_meaning.specs.Bounds.{costs_of, depths_by, jobs_of, depth_of}
use Rattle.rx_compile.specs.Compiled.{file_kind, net_input, input_digits}
use Rattle.rx_compile.specs.Realized.{HasForm, operand}

-- ---- the line at a place, what is known of it, and its costs

abbrev pub no_line : Line
no_line = record { word = Out; name = []; args = []; number = 0; width = 0 }

abbrev pub line_at : Program → ℕ → Line
line_at p k = get_or p.lines k no_line

abbrev pub step_at : Program → ℕ → Step
step_at p k = get_or (steps_of p) k no_step

abbrev pub costs : Program → List Cost
costs p = costs_of p.space (steps_of p) p.lines (steps_of p)

abbrev pub depths : Program → List ℕ
depths p = depths_by p.space p.lines (steps_of p)

-- the place of the line that defines an argument of the line at a place
abbrev pub source_at : Program → ℕ → ℕ → ℕ
source_at p k i = get_or (step_at p k).sources i 0

-- ---- the inputs

-- the inputs of the net for those among the first lines
abbrev pub inputs_before : Program → ℕ → List NetInput
inputs_before p k = map (net_input p.space) (ports_in is_input (take k p.lines) (take k (steps_of p)))

-- a net of these inputs alone
abbrev pub inputs_net : Program → ℕ → Net
inputs_net p k = record { space = p.space; inputs = inputs_before p k; jobs = []; outputs = [] }

-- how many cells the inputs before a line have, and so the first cell of its own input
abbrev pub first_cell : Program → ℕ → ℕ
first_cell p k = input_cells p.space (inputs_before p k)

-- the first cell for each line
pub record AreFirsts (p : Program) (firsts : List ℕ) : Type 0 where
  pub count : length firsts ≡ length p.lines
  pub each : (k : ℕ) → k < length firsts → slice_index firsts k ≡ first_cell p k

-- the digits of the inputs of a circuit
abbrev pub digits_for : Program → List ℕ → List ℕ
digits_for p xs = input_digits p.space (inputs_of p) xs

-- ---- the lines

-- the cells hold the value of the line at a place, and are no deeper than its bound
pub record HoldsLine (p : Program) (net : Net) (k : ℕ) (cells : List ℕ) : Type 0 where
  pub form : HasForm net (kind_at (steps_of p) k) cells
  pub value_is : (xs : List ℕ) → AreWithin (inputs_of p) xs →
      operand net (kind_at (steps_of p) k) cells (digits_for p xs) ≡ get_or (line_values p xs) k absent
  pub shallow : Each cells (λ c. depth net c ≤ get_or (depths p) k 0)

-- the net has the circuit's inputs, and holds the first lines, each in its cells, within their bounds
pub record Holds (p : Program) (net : Net) (names : List (List ℕ)) : Type 0 where
  pub space_is : net.space ≡ p.space
  pub inputs_are : net.inputs ≡ map (net_input p.space) (inputs_of p)
  pub lines : (k : ℕ) → k < length names → HoldsLine p net k (get_or names k [])
  pub jobs_in : length net.jobs + sum_by (λ cost. cost.jobs) (drop (length names) (costs p)) ≤ jobs_of p
  pub shallow : (c : ℕ) → c < cell_count net → depth net c ≤ depth_of p

-- the line at a place is the next, after lines that the net holds, and all jobs are within the limit
pub record IsNext (p : Program) (net : Net) (names : List (List ℕ)) (k : ℕ) : Type 0 where
  pub few : jobs_of p ≤ most_jobs
  pub there : k < length p.lines
  pub count : length names ≡ k
  pub holds : Holds p net names

-- the cells hold the value of the line at a place, after jobs within its cost
pub record Plans (p : Program) (k : ℕ) (old new : Net) (cells : List ℕ) : Type 0 where
  pub extends : Extends old new
  pub jobs_in : cell_count new ≤ cell_count old + (get_or (costs p) k none).jobs
  pub line : HoldsLine p new k cells
  pub shallow : (c : ℕ) → cell_count old ≤ c → c < cell_count new → depth new c ≤ depth_of p

-- ---- the outputs

abbrev pub net_output : Line → Step → List ℕ → NetOutput
net_output line step cells = record { name = line.name; kind = file_kind step.kind; bits = bits_of step.kind; cells = cells }

-- the outputs among these lines, each with the cells of its line
unfoldable pub outputs_among : List Line → List Step → List (List ℕ) → List NetOutput
outputs_among (line ∷ lines) (step ∷ steps) (cells ∷ names) =
    if is_output line.word then net_output line step cells ∷ outputs_among lines steps names else outputs_among lines steps names
outputs_among _ _ _ = []

-- the outputs of the net for those among the first lines
abbrev pub outputs_before : Program → List (List ℕ) → ℕ → List NetOutput
outputs_before p names k = outputs_among (take k p.lines) (take k (steps_of p)) (take k names)
