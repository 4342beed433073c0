-- A net that grows.
use Rattle.std.specs.Prelude.{ℕ, ℤ, suc, ◌+◌, ◌<◌, ◌≤◌, ◌≡◌, List, map, take, length, get_or}
use Rattle.rx_net.specs.declared.term.Term.{Term}
use Rattle.rx_net.specs.declared.net.Net.{Net}
use Rattle.rx_net.specs.Tags.{value_of, greatest_of, natural}
use Rattle.rx_net.specs.Cells.{cell_count, value, degree, noise, depth, Within}
use Rattle.rx_net.specs.Legal.{IsBounded, reached}

-- what was there stays, and only jobs were added
pub record Extends (old new : Net) : Type 0 where
  pub space : new.space ≡ old.space
  pub inputs : new.inputs ≡ old.inputs
  pub outputs : new.outputs ≡ old.outputs
  pub jobs : take (length old.jobs) new.jobs ≡ old.jobs
  pub cells_grow : cell_count old ≤ cell_count new
  pub jobs_grow : cell_count new + length old.jobs ≡ cell_count old + length new.jobs
  pub degrees : (c : ℕ) → c < cell_count old → degree new c ≡ degree old c
  pub noises : (c : ℕ) → c < cell_count old → noise new c ≡ noise old c
  pub depths : (c : ℕ) → c < cell_count old → depth new c ≡ depth old c
  pub values : (inputs : List ℕ) → Within old.space old.inputs inputs → (c : ℕ) → c < cell_count old → value new inputs c ≡ value old inputs c

-- the cell c is one new cell, that of a job of these terms, constant and table
pub record AddsJob (old new : Net) (c : ℕ) (terms : List Term) (constant : ℤ) (table : List ℕ) : Type 0 where
  pub extends : Extends old new
  pub cell : c ≡ cell_count old
  pub count : cell_count new ≡ suc (cell_count old)
  pub degree_is : degree new c ≡ reached (degree old) terms constant table
  pub noise_is : noise new c ≡ 1
  pub depth_is : depth new c ≡ suc (greatest_of (map (λ t. depth old t.cell) terms))
  pub value_is : (inputs : List ℕ) → Within old.space old.inputs inputs →
      value new inputs c ≡ get_or table (natural (value_of (value old inputs) constant terms)) 0
  pub bounded : IsBounded new
