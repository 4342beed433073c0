use Rattle.std.proofs.Common.{◌≡◌}
use Rattle.rx_uses.specs.Uses.{node_at, list_of}
use Rattle.rx_uses.proofs.tests.has_uses.Given as goal

abbrev pub invariant-loop-node : goal.invariant-loop-node
invariant-loop-node l = l.at ≡ node_at (list_of l.uses l.cell) l.node-index
