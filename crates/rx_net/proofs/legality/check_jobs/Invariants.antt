use Rattle.std.proofs.Common.{◌≡◌, take, drop, []}
use Rattle.rx_net.specs.Faults.{first_in_turn, job_fault}
use Rattle.rx_net.proofs.legality.check_jobs.Given as goal

abbrev pub invariant-loop-number : goal.invariant-loop-number
invariant-loop-number l = first_in_turn (job_fault l.space l.inputs) (take l.number l.jobs) (drop l.number l.jobs) ≡ first_in_turn (job_fault l.space l.inputs) [] l.jobs
