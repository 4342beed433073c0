use Rattle.std.proofs.Common.{sym, ◌∙◌}
use Rattle.rx_uses.proofs.tests.has_nodes.Goals as goal

pub next-at-requires : goal.next-at-requires
next-at-requires c = (c.args.cell, c.loop-node.node-index, c.requires, sym c.loop-node.invariant ∙ c.in-Some.is)

pub loop-node-preserved : goal.loop-node-preserved
loop-node-preserved c = c.next-at.ensures c.args.cell c.loop-node.node-index c.requires (sym c.loop-node.invariant ∙ c.in-Some.is)
