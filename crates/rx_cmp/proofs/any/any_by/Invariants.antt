use Rattle.std.proofs.Common.{length}
use Rattle.rx_cmp.proofs.Nodes.{Nodes}
use Rattle.rx_cmp.proofs.any.any_by.Given as goal

abbrev pub invariant-loop-pen : goal.invariant-loop-pen
invariant-loop-pen l = Nodes l.fn.pen l.pen l.fn.nodes.items l.nodes.items l.most

abbrev pub decreases-loop-pen : goal.decreases-loop-pen
decreases-loop-pen l = length l.nodes.items
