-- Seats of a board, and what a trial of a job tells.
use Rattle.std.specs.Prelude.{◌≡◌, ℕ, [], Some, None}
use Rattle.atomic_table.specs.declared.shared.Seat.{Seat}
use Rattle.rx_board.specs.declared.view.View.{View}
use Rattle.atomic_table.specs.Seated.{TableId}
use Rattle.rx_board.specs.Rule.{BoardValue}

abbrev pub IsSeatOf : BoardValue → Seat (Unit {0}) View → Type 0
IsSeatOf b s = (s.table_id ≡ b.id) × (s.me.1 ≡ []) × (s.me.0.plan ≡ Some b.plan)

-- a seat that holds no job
abbrev pub IsIdleSeatOf : BoardValue → Seat (Unit {0}) View → Type 0
IsIdleSeatOf b s = (s.table_id ≡ b.id) × (s.me.1 ≡ []) × (s.me.0.plan ≡ Some b.plan) × (s.me.0.held ≡ None)

abbrev pub view_of : Seat (Unit {0}) View → View
view_of s = s.me.0

-- a caller's seat between calls, as contracts see it
pub record Standing : Type 0 where
  pub table_id : TableId
  pub id : ℕ
  pub view : View

-- the seat is of this board, and not spent
abbrev pub IsOf : BoardValue → Standing → Type 0
IsOf b s = (s.table_id ≡ b.id) × (s.view.plan ≡ Some b.plan)
