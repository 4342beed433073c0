-- Boards and workers that fit one another.
use Rattle.std.specs.Prelude.{◌≡◌, []}
use Rattle.rx_board.specs.Rule.{BoardValue}
use Rattle.rx_board.specs.Seats.{IsOf}
use Rattle.bench_board.specs.declared.workers.Worker.{Worker}

-- the board is one of the kernel that fills its cells
pub record IsFilled (b : BoardValue) : Type 0 where
  pub basis : b.basis ≡ []
  pub width : b.plan.width ≡ 257
  pub space : b.plan.net.space ≡ 2

-- the worker sits at this board, with places for its cells
pub record Serves (b : BoardValue) (w : Worker) : Type 0 where
  pub seat : IsOf b w.seat
  pub desk : w.desk ≡ 257
