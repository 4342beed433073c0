-- Rows of cells, each of which holds a number. Rows stand one after another in a list, each of the same width.
use Rattle.std.specs.Prelude.{ℕ, ◌+◌, ◌-◌, ◌*◌, ◌<◌, ◌≤◌, ◌≡◌, nat_lt, if◌then◌else◌, List, length, get_or}
use Rattle.rx_net.specs.declared.net.Net.{Net}
use Rattle.rx_net.specs.Cells.{value, depth}
use Rattle.rx_plan.specs.Values.{cell_value, number, total}
use Rattle.rx_plan.specs.Planned.{IsCell}

-- a cell that is 0
pub record IsNought (net : Net) (c : ℕ) : Type 0 where
  pub cell : IsCell net 0 c
  pub shallow : depth net c ≤ 1

-- digits moved up by some places
unfoldable pub shifted : ℕ → (ℕ → ℕ) → ℕ → ℕ
shifted shift digit place = if nat_lt place shift then 0 else digit (place - shift)

-- the jobs of a place of a row that is moved up
unfoldable pub jobs_at_place : ℕ → ℕ → ℕ
jobs_at_place shift place = if nat_lt place shift then 0 else 1

-- the sum of the numbers of the first count rows of width cells
abbrev pub rows_number : ℕ → Net → List ℕ → ℕ → ℕ → List ℕ → ℕ
rows_number u net rows width count inputs = total count (λ r. number u width (λ k. cell_value net rows inputs (r * width + k)))

-- the sum of what count rows hold at a place
abbrev pub column_sum : Net → List ℕ → ℕ → ℕ → List ℕ → ℕ → ℕ
column_sum net rows width count inputs place = total count (λ r. cell_value net rows inputs (r * width + place))

-- what a table says of the cell x and a place of b, as a number of two digits
abbrev pub product_at : ℕ → Net → List ℕ → ℕ → List ℕ → List ℕ → ℕ → ℕ
product_at u net table x b inputs place = get_or table (u * value net inputs x + cell_value net b inputs place) 0

-- the cells of a place of count rows, but those that are a cell of 0
pub record IsColumn (rows : List ℕ) (width count place nought : ℕ) (cells : List ℕ) : Type 0 where
  pub few : length cells ≤ count
  pub from : (i : ℕ) → i < length cells → (r : ℕ) × (r < count) × (get_or cells i 0 ≡ get_or rows (r * width + place) 0)
  pub sum : (v : ℕ → ℕ) → v nought ≡ 0
      → total (length cells) (λ i. v (get_or cells i 0)) ≡ total count (λ r. v (get_or rows (r * width + place) 0))
