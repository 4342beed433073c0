-- Tables that planners look up.
use Rattle.std.specs.Prelude.{ℕ, ◌*◌, ◌^◌, ◌<◌, ◌≡◌, List, length, get_or}

-- the number of entries of a table: a block holds twice its message bits
abbrev pub entries : ℕ → ℕ
entries space = 2 ^ space * 2 ^ space

-- a table of a space
pub record IsTable (space : ℕ) (table : List ℕ) : Type 0 where
  pub count : length table ≡ entries space
  pub each : (i : ℕ) → i < entries space → get_or table i 0 < entries space

-- the table of what a function says at each index
pub record HasEntries (space : ℕ) (says : ℕ → ℕ) (table : List ℕ) : Type 0 where
  pub count : length table ≡ entries space
  pub each : (i : ℕ) → i < entries space → get_or table i 0 ≡ says i
