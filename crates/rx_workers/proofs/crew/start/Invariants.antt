use Rattle.std.proofs.Common.{◌≡◌, ◌++◌, vec_len}
use Rattle.std.specs.Prelude.{All, reverse}
use Rattle.rx_board.specs.Seats.{IsOf}
use Rattle.rx_workers.specs.Crew.{IsFit, Suits, kernels_of}
use Rattle.rx_workers.proofs.crew.start.Given as goal

abbrev pub invariant-loop-kernel : goal.invariant-loop-kernel
invariant-loop-kernel g l = record {
  seat : IsOf l.board l.seat;
  fit : All (IsFit g.K.Kernel.basis g.K.Kernel.width g.K.Kernel.space g.K.Kernel.told l.board) l.workers.items;
  others : All (Suits g.K.Kernel.basis g.K.Kernel.width g.K.Kernel.space g.K.Kernel.told l.board) l.others.items;
  kernels : kernels_of l.workers.items ++ reverse l.others.items ≡ reverse l.initial.others.items;
}

abbrev pub decreases-loop-kernel : goal.decreases-loop-kernel
decreases-loop-kernel g l = vec_len l.others
