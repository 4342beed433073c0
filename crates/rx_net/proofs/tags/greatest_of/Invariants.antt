use Rattle.std.proofs.Common.{◌≡◌, max, drop}
use Rattle.rx_net.specs.Tags.{greatest_of}
use Rattle.rx_net.proofs.tags.greatest_of.Given as goal

abbrev pub invariant-loop-entry : goal.invariant-loop-entry
invariant-loop-entry l = max l.most (greatest_of (drop l.entry-index l.entries)) ≡ greatest_of l.entries
