use Rattle.std.proofs.Common.{◌≡◌, ℕ, ◌<◌}
use Rattle.std.specs.Prelude.{Contains}
use Rattle.rx_board.specs.Seats.{IsIdleSeatOf}
use Rattle.rx_board.specs.Rule.{IsOperandAt}
use Rattle.rx_board.specs.Tells.{Grows}
use Rattle.rx_board.proofs.board.Board.is_ready.Given as goal

abbrev pub invariant-loop-place : goal.invariant-loop-place
invariant-loop-place g l = record {
  idle : IsIdleSeatOf l.self l.seat;
  id : l.seat.id ≡ l.initial.seat.id;
  grows : Grows l.initial.seat.me.0 l.seat.me.0;
  known : (k o : ℕ) → k < l.place → IsOperandAt l.self.plan l.job k o → Contains l.seat.me.0.known o;
}
