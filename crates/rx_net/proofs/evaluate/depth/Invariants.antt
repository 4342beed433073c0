use Rattle.rx_net.proofs.Evaluates.{HasDepths}
use Rattle.rx_net.proofs.evaluate.depth.Given as goal

abbrev pub invariant-loop-job : goal.invariant-loop-job
invariant-loop-job l = HasDepths l.net.space l.net.inputs l.net.jobs l.job-index l.depths.items l.most
