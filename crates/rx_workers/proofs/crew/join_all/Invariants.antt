use Rattle.std.proofs.Common.{◌≡◌, vec_len}
use Rattle.std.specs.Prelude.{All}
use Rattle.rx_board.specs.declared.view.View.{View}
use Rattle.rx_board.specs.Seats.{IsOf}
use Rattle.rx_workers.specs.Crew.{IsFit, HasJoined, KnowsAll}
use Rattle.rx_workers.proofs.crew.join_all.Given as goal

abbrev pub invariant-loop-worker : goal.invariant-loop-worker
invariant-loop-worker g l = record {
  idle : IsOf l.board l.seat;
  fit : All (IsFit g.K.Kernel.basis g.K.Kernel.width g.K.Kernel.space g.K.Kernel.told l.board) l.workers.items;
  knows : KnowsAll l.initial.seat.view l.seat.view;
  joined : (v : View) → KnowsAll l.seat.view v → HasJoined l.workers.items v → HasJoined l.initial.workers.items v;
  met : l.seat.view.met ≡ l.initial.seat.view.met;
}

abbrev pub decreases-loop-worker : goal.decreases-loop-worker
decreases-loop-worker g l = vec_len l.workers
