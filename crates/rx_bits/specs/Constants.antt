-- Cells of digits that are told.
use Rattle.std.specs.Prelude.{ℕ, ◌-◌, ◌^◌, ◌<◌, ◌≤◌, ◌≡◌, List, length, get_or}
use Rattle.rx_net.specs.declared.net.Net.{Net}
use Rattle.rx_net.specs.Cells.{value, depth}
use Rattle.rx_plan.specs.Values.{AreInputs}
use Rattle.rx_plan.specs.Planned.{IsCell}

-- a cell that holds this digit, whatever the inputs are
pub record IsDigit (net : Net) (digit c : ℕ) : Type 0 where
  pub cell : IsCell net (2 ^ net.space - 1) c
  pub shallow : depth net c ≤ 1
  pub holds : (inputs : List ℕ) → AreInputs net inputs → value net inputs c ≡ digit

-- each cell holds the digit of its place
abbrev pub AreMade : Net → List ℕ → List ℕ → Type 0
AreMade net cells digits = (i : ℕ) → i < length cells → IsDigit net (get_or digits i 0) (get_or cells i 0)
