use Rattle.std.proofs.Common.{[], length, ◌≤◌}
use Rattle.rx_net.specs.declared.net.Job.{Job}
use Rattle.rx_net.proofs.Faults.{turn_at}
use Rattle.rx_net.proofs.legality.check_jobs.Goals as goal

pub check_job-requires-clause-few_terms : goal.check_job-requires-clause-few_terms
check_job-requires-clause-few_terms c =
    turn_at (λ before (j : Job). length j.terms ≤ 16) [] c.args.jobs.now c.requires.few_terms c.loop-number.number c.index-jobs-number.result c.loop-number-test.true c.index-jobs-number.is
