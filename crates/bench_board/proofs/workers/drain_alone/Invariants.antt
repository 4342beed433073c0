use Rattle.bench_board.specs.Workers.{Serves}
use Rattle.bench_board.proofs.workers.drain_alone.Given as goal

abbrev pub invariant-loop : goal.invariant-loop
invariant-loop l = Serves l.board l.worker
