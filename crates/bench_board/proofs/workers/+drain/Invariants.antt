use Rattle.std.proofs.Common.{◌-◌, ◌*◌}
use Rattle.bench_board.proofs.workers.+drain.Given as goal

abbrev pub decreases-drain : goal.decreases-drain
decreases-drain g l = 2 * l.workers

abbrev pub decreases-others : goal.decreases-others
decreases-others g l = 2 * l.workers - 1
