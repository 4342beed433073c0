use Rattle.rx_net.proofs.Inputs.{IsLeft}
use Rattle.rx_net.proofs.tags.tags_at.Given as goal

abbrev pub invariant-loop-input : goal.invariant-loop-input
invariant-loop-input l = IsLeft l.space l.inputs l.cell l.input-index l.left
