use Rattle.std.proofs.Common.{◌≡◌, length}
use Rattle.rx_board.proofs.tests.jobs_of.Given as goal

abbrev pub invariant-loop-terms : goal.invariant-loop-terms
invariant-loop-terms l = length l.jobs.items ≡ l.terms-index
