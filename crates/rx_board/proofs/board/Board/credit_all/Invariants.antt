use Rattle.std.proofs.Common.{◌≡◌, ◌-◌, ◌≤◌, length}
use Rattle.std.specs.Prelude.{Some}
use Rattle.rx_uses.specs.Uses.{node_at}
use Rattle.rx_board.specs.Rule.{holding, uses_in}
use Rattle.rx_board.proofs.board.Board.credit_all.Given as goal

abbrev pub invariant-loop-next : goal.invariant-loop-next
invariant-loop-next g l = record {
  table : l.seat.table_id ≡ l.initial.seat.table_id;
  id : l.seat.id ≡ l.initial.seat.id;
  me : l.seat.me ≡ (record l.initial.seat.me.0 { held = Some (holding l.job l.self.plan.width l.done) }, l.initial.seat.me.1);
  next : l.next ≡ node_at (uses_in l.self.plan l.job) l.done;
  some : l.done ≤ length (uses_in l.self.plan l.job);
}

abbrev pub decreases-loop-next : goal.decreases-loop-next
decreases-loop-next g l = length (uses_in l.self.plan l.job) - l.done
