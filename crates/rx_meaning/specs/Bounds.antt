-- The bounds of a circuit: the jobs of all its lines, used or not, and the greatest depth of a line.
use Rattle.std.specs.Prelude.{ℕ, ◌+◌, max, List, [], ◌∷◌, ◌++◌, length, get_or, map}
use Rattle.std.specs.List.{sum_by}
use Rattle.rx_costs.specs.declared.table.Cost.{Cost}
use Rattle.rx_language.specs.declared.line.Line.{Line}
use Rattle.rx_language.specs.declared.line.Step.{Step}
use Rattle.rx_language.specs.Programs.{Program, kind_at, steps_of}
use Rattle.rx_meaning.specs.Costs.{cost_by}

-- the cost of a line, where all steps tell the kind of its first argument
abbrev pub cost_of : ℕ → List Step → Line → Step → Cost
cost_of space steps line step = cost_by line.word space step.kind (kind_at steps (get_or step.sources 0 (length steps)))

-- the costs of these lines
unfoldable pub costs_of : ℕ → List Step → List Line → List Step → List Cost
costs_of space steps (line ∷ lines) (step ∷ rest) = cost_of space steps line step ∷ costs_of space steps lines rest
costs_of space steps _ _ = []

-- the jobs of all lines
abbrev pub jobs_by : ℕ → List Line → List Step → ℕ
jobs_by space lines steps = sum_by (λ cost. cost.jobs) (costs_of space steps lines steps)

-- the jobs of a circuit, at most
abbrev pub jobs_of : Program → ℕ
jobs_of p = jobs_by p.space p.lines (steps_of p)

-- the greatest of some numbers, 0 where there are none
unfoldable pub greatest : List ℕ → ℕ
greatest [] = 0
greatest (x ∷ xs) = max x (greatest xs)

-- the greatest of the numbers at these places
abbrev pub greatest_at : List ℕ → List ℕ → ℕ
greatest_at numbers places = greatest (map (λ place. get_or numbers place 0) places)

-- the depth of a line: its own, and the greatest of its arguments
abbrev pub depth_after : List ℕ → Cost → Step → ℕ
depth_after before cost step = cost.depth + greatest_at before step.sources

-- the depths of these lines, by those of the lines before
unfoldable pub depths_from : List ℕ → List Cost → List Step → List ℕ
depths_from before (cost ∷ costs) (step ∷ steps) =
    let depth = depth_after before cost step in
    depth ∷ depths_from (before ++ depth ∷ []) costs steps
depths_from before _ _ = []

-- the depths of all lines
abbrev pub depths_by : ℕ → List Line → List Step → List ℕ
depths_by space lines steps = depths_from [] (costs_of space steps lines steps) steps

-- the depth of a circuit, at most
abbrev pub depth_of : Program → ℕ
depth_of p = greatest (depths_by p.space p.lines (steps_of p))
