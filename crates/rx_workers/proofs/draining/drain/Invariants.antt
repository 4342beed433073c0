use Rattle.std.proofs.Common.{◌-◌, ◌≤◌, ◌+◌}
use Rattle.rx_board.specs.Rule.{job_count}
use Rattle.rx_board.specs.Tells.{Keeps}
use Rattle.rx_workers.specs.Crew.{IsFit, KnowsAll, taken_in}
use Rattle.rx_workers.proofs.Turns.{missing}
use Rattle.rx_workers.proofs.draining.drain.Given as goal

abbrev pub invariant-loop-misses : goal.invariant-loop-misses
invariant-loop-misses g l = record {
  fit : IsFit g.K.Kernel.basis g.K.Kernel.width g.K.Kernel.space g.K.Kernel.told l.board l.worker;
  keeps : Keeps l.initial.worker.seat.view l.worker.seat.view;
  knows : KnowsAll l.initial.worker.seat.view l.worker.seat.view;
  enough : l.misses ≤ taken_in l.worker.seat.view.met;
}

abbrev pub decreases-loop-misses : goal.decreases-loop-misses
decreases-loop-misses g l = (1048576 - l.misses) + missing (job_count l.board.plan) l.worker.seat.view.ran
