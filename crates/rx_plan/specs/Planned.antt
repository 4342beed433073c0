-- What planners promise. A planner adds jobs to a net, and gives cells of it.
use Rattle.std.specs.Prelude.{ℕ, ◌+◌, ◌-◌, ◌^◌, ◌<◌, ◌≤◌, ◌≡◌, List, length, get_or}
use Rattle.rx_net.specs.declared.net.Net.{Net}
use Rattle.rx_net.specs.Limits.{most_jobs}
use Rattle.rx_net.specs.Cells.{cell_count, value, degree, noise, depth}
use Rattle.rx_net.specs.Legal.{IsBounded}
use Rattle.rx_net.specs.Growth.{Extends}
use Rattle.rx_plan.specs.Values.{AreInputs, cell_value}

-- each cell of a list
abbrev pub Each : List ℕ → (ℕ → Type 0) → Type 0
Each cells P = (i : ℕ) → i < length cells → P (get_or cells i 0)

-- each cell of two lists
abbrev pub EachOf : List ℕ → List ℕ → (ℕ → Type 0) → Type 0
EachOf a b P = Each a P × Each b P

-- a cell of a degree of at most top, and of noise 1
pub record IsCell (net : Net) (top c : ℕ) : Type 0 where
  pub there : c < cell_count net
  pub degree_in : degree net c ≤ top
  pub noise_is : noise net c ≡ 1

abbrev pub AreCells : Net → ℕ → List ℕ → Type 0
AreCells net top cells = Each cells (IsCell net top)

-- the same with a degree for each place
abbrev pub AreCellsBy : Net → (ℕ → ℕ) → List ℕ → Type 0
AreCellsBy net tops cells = (i : ℕ) → i < length cells → IsCell net (tops i) (get_or cells i 0)

-- the blocks of a number: cells that hold a digit each
abbrev pub AreBlocks : Net → List ℕ → Type 0
AreBlocks net cells = AreCells net (2 ^ net.space - 1) cells

-- so many jobs may still be added
abbrev pub HasRoom : Net → ℕ → Type 0
HasRoom net jobs = length net.jobs + jobs ≤ most_jobs

-- The cell c is one new cell, which looks a table up at the number that at makes of the values of the operands, at most most.
pub record Makes (old new : Net) (c : ℕ) (Operands : (ℕ → Type 0) → Type 0) (most : ℕ) (at : (ℕ → ℕ) → ℕ) (table : List ℕ) : Type 0 where
  pub extends : Extends old new
  pub bounded : IsBounded new
  pub cell : c ≡ cell_count old
  pub count : cell_count new ≡ cell_count old + 1
  pub noise_is : noise new c ≡ 1
  pub degree_in : (top : ℕ) → ((i : ℕ) → i ≤ most → get_or table i 0 ≤ top) → degree new c ≤ top
  pub depth_in : (d : ℕ) → Operands (λ o. depth old o ≤ d) → depth new c ≤ d + 1
  pub value_is : (inputs : List ℕ) → AreInputs old inputs → value new inputs c ≡ get_or table (at (value old inputs)) 0

-- The cell c is there after at most jobs jobs, none of which is deeper.
pub record Gives (old new : Net) (c top jobs : ℕ) : Type 0 where
  pub extends : Extends old new
  pub bounded : IsBounded new
  pub cell : IsCell new top c
  pub jobs_in : cell_count new ≤ cell_count old + jobs
  pub deep : (b : ℕ) → cell_count old ≤ b → b < cell_count new → depth new b ≤ depth new c

-- What a planner promises: it led from old to new by at most jobs jobs, and gave count cells. Cell i has a degree of at
-- most tops i and noise 1, and holds what says makes of the inputs, whatever inputs within their degrees the net is given.
-- The cells that it gave and those that are new are at most levels deeper than the operands.
pub record Planned (old new : Net) (cells : List ℕ) (tops : ℕ → ℕ) (count jobs levels : ℕ) (Operands : (ℕ → Type 0) → Type 0)
    (says : List ℕ → ℕ → ℕ) : Type 0 where
  pub extends : Extends old new
  pub bounded : IsBounded new
  pub count_is : length cells ≡ count
  pub jobs_in : cell_count new ≤ cell_count old + jobs
  pub cells_are : AreCellsBy new tops cells
  pub deep : (d : ℕ) → Operands (λ o. depth old o ≤ d) → (c : ℕ) → cell_count old ≤ c → c < cell_count new → depth new c ≤ d + levels
  pub deep_cells : (d : ℕ) → Operands (λ o. depth old o ≤ d) → Each cells (λ c. depth new c ≤ d + levels)
  pub values_are : (inputs : List ℕ) → AreInputs old inputs → (i : ℕ) → i < count → value new inputs (get_or cells i 0) ≡ says inputs i

-- a planner of blocks whose values are said elsewhere
abbrev pub Lays : Net → Net → List ℕ → ℕ → ℕ → ℕ → ((ℕ → Type 0) → Type 0) → Type 0
Lays old new cells count jobs levels Operands =
    Planned old new cells (λ _. 2 ^ old.space - 1) count jobs levels Operands (λ inputs i. cell_value new cells inputs i)
