use Rattle.std.proofs.Common.{◌≡◌, take}
use Rattle.rx_net.specs.Cells.{values_after}
use Rattle.rx_net.proofs.evaluate.plain.Given as goal

abbrev pub invariant-loop-job : goal.invariant-loop-job
invariant-loop-job l = l.values.items ≡ values_after l.inputs (take l.job-index l.net.jobs)
