use Rattle.std.proofs.Common.{◌≡◌, ◌-◌, ◌+◌, ◌≤◌, length}
use Rattle.rx_uses.specs.Uses.{node_at, nodes_of}
use Rattle.rx_board.specs.Rule.{input_count, Opening}
use Rattle.rx_board.proofs.board.opening.count_uses.Given as goal

abbrev pub invariant-loop-next : goal.invariant-loop-next
invariant-loop-next l = record {
  next : l.next ≡ node_at (nodes_of l.net (input_count l.net + l.job)) l.done;
  some : l.done ≤ length (nodes_of l.net (input_count l.net + l.job));
  counted : Opening l.net l.width l.job l.done l.words;
}

abbrev pub decreases-loop-next : goal.decreases-loop-next
decreases-loop-next l = length (nodes_of l.net (input_count l.net + l.job)) - l.done
