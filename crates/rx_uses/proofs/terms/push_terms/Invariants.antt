use Rattle.std.proofs.Common.{◌≡◌, ◌++◌, map, take, replicate}
use Rattle.rx_uses.specs.Links.{cell_named}
use Rattle.rx_uses.proofs.terms.push_terms.Given as goal

abbrev pub invariant-loop-term : goal.invariant-loop-term
invariant-loop-term l = record {
  named : l.named.items ≡ l.initial.named.items ++ map cell_named (take l.term-index l.terms);
  owners : l.owners.items ≡ l.initial.owners.items ++ replicate l.term-index l.job;
}
