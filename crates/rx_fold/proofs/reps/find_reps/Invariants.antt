use Rattle.rx_fold.proofs.Found.{HasFound}
use Rattle.rx_fold.proofs.reps.find_reps.Given as goal

abbrev pub invariant-loop-job : goal.invariant-loop-job
invariant-loop-job l = HasFound l.inputs l.jobs l.job-index l.reps.items l.firsts
