-- What a run's board tells.
use Rattle.std.specs.Prelude.{ℕ, ◌≡◌, ◌+◌, ◌<◌, ◌≤◌, ◌^◌, ◌⊎◌, List, [], length, get_or, Contains, Some}
use Rattle.rx_params.specs.Derived.{large_dim}
use Rattle.rx_net.specs.declared.net.Net.{Net}
use Rattle.rx_boot.specs.ServerKeys.{ServerWords}
use Rattle.rx_block.specs.declared.block.Block.{Block}
use Rattle.rx_board.specs.declared.view.Plan.{Plan}
use Rattle.rx_board.specs.declared.view.View.{View}
use Rattle.rx_board.specs.Closing.{ClosedValue, state_of, cell_of}
use Rattle.rx_workers.specs.Crew.{taken_in}
use Rattle.rx_crew.specs.Evaluation.{cell_words}

-- what the board of a run is about: the net, and the cells of the evaluation
abbrev pub run_plan : ServerWords → Net → List Block → Plan
run_plan key net inputs = record { net = net; width = large_dim key.params + 1; cells = cell_words key net inputs }

-- What the first seat of a run's board has found, where so many jobs were left to the caller: it is of that board, and knows
-- each job, and none was left; or it found a job taken 2^20 times.
pub record HasWorked (key : ServerWords) (net : Net) (inputs : List Block) (v : View) (finished : ℕ) : Type 0 where
  pub plan : v.plan ≡ Some (run_plan key net inputs)
  pub either : (((j : ℕ) → j < length net.jobs → Contains v.known j) × (finished ≡ 0)) ⊎ (2 ^ 20 ≤ taken_in v.met)

-- That seat, and the board as it was closed: it knows each job, and each of them is present; or it found a job taken 2^20 times.
pub record HasClosed (jobs : ℕ) (v : View) (c : ClosedValue) : Type 0 where
  pub either : (((j : ℕ) → j < jobs → Contains v.known j) × ((j : ℕ) → j < jobs → state_of c j ≡ 2)) ⊎ (2 ^ 20 ≤ taken_in v.met)

-- a closed board has the net's jobs, and of each that is present the words of its cell
pub record HoldsCells (key : ServerWords) (net : Net) (inputs : List Block) (c : ClosedValue) : Type 0 where
  pub jobs : c.jobs ≡ length net.jobs
  pub width : c.width ≡ large_dim key.params + 1
  pub cells : (j : ℕ) → j < length net.jobs → state_of c j ≡ 2 →
      cell_of c j ≡ get_or (cell_words key net inputs) (length inputs + j) []
