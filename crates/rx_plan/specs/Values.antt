-- What cells hold, as numbers of several places.
use Rattle.std.specs.Prelude.{ℕ, zero, suc, ◌+◌, ◌*◌, ◌^◌, List, map, get_or}
use Rattle.rx_net.specs.declared.net.Net.{Net}
use Rattle.rx_net.specs.Cells.{Within, value}
use Rattle.rx_net.specs.Numbers.{number_of}

-- one value for each input cell of a net, within its degree
abbrev pub AreInputs : Net → List ℕ → Type 0
AreInputs net inputs = Within net.space net.inputs inputs

-- the number that cells hold, the least block first
unfoldable pub number_held : Net → List ℕ → List ℕ → ℕ
number_held net cells inputs = number_of net.space (map (value net inputs) cells)

-- ---- the same by places

-- what the cell at a place of a list holds
abbrev pub cell_value : Net → List ℕ → List ℕ → ℕ → ℕ
cell_value net cells inputs place = value net inputs (get_or cells place 0)

-- the number of the digits f 0 to f (n - 1) to the base u
unfoldable pub number : ℕ → ℕ → (ℕ → ℕ) → ℕ
number u zero f = 0
number u (suc n) f = number u n f + u ^ n * f n

-- the sum of f 0 to f (n - 1)
unfoldable pub total : ℕ → (ℕ → ℕ) → ℕ
total zero f = 0
total (suc n) f = total n f + f n
