use Rattle.std.proofs.Common.{length}
use Rattle.rx_carry.proofs.Trees.{Tree}
use Rattle.rx_carry.proofs.tree.two_nodes.Given as goal

abbrev pub invariant-loop-pen : goal.invariant-loop-pen
invariant-loop-pen l = Tree l.fn.pen l.pen l.fn.states.items l.nodes.items

abbrev pub decreases-loop-pen : goal.decreases-loop-pen
decreases-loop-pen l = length l.nodes.items
