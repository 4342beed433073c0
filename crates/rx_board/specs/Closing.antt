-- What is left when a board is closed.
use Rattle.std.specs.Prelude.{◌≡◌, ℕ, zero, suc, ◌+◌, ◌<◌, ◌==◌, List, take, drop, Contains}
use mathlib.Core.Option.{some}
use lib.ListN.{get_elem?}
use Rattle.rx_board.specs.declared.view.Plan.{Plan}
use Rattle.rx_board.specs.declared.view.View.{View}
use Rattle.rx_board.specs.Rule.{Laws, state_in, count_in, word_in, word_place, job_count, cell, one_if}

pub record ClosedValue : Type 0 where
  pub width : ℕ
  pub jobs : ℕ
  pub words : List ℕ

abbrev pub state_of : ClosedValue → ℕ → ℕ
state_of c j = state_in c.width c.words j

abbrev pub cell_of : ClosedValue → ℕ → List ℕ
cell_of c j = take c.width (drop (word_place c.width j 0) c.words)

-- how many of the first n jobs are present
abbrev pub present_below : ClosedValue → ℕ → ℕ
present_below c zero = 0
present_below c (suc n) = present_below c n + one_if (state_of c n == 2)

-- the words are lawful with views among which v stands
pub record IsClosedWith (p : Plan) (v : View) (c : ClosedValue) : Type 0 where
  pub views : List View
  pub place : ℕ
  pub has : get_elem? views place ≡ some v
  pub laws : Laws p (state_in c.width c.words) (word_in c.width c.words) (count_in c.width c.words) views
  pub ran : (j : ℕ) → Contains v.ran j → state_of c j ≡ 2
  pub cells : (j : ℕ) → j < job_count p → state_of c j ≡ 2 → cell_of c j ≡ cell p j
