use Rattle.std.proofs.Common.{◌≡◌, map, take}
use Rattle.rx_uses.specs.Uses.{all_terms, owners_from}
use Rattle.rx_uses.specs.Links.{cell_named}
use Rattle.rx_uses.proofs.terms.list_terms.Given as goal

abbrev pub invariant-loop-number : goal.invariant-loop-number
invariant-loop-number l = record {
  named : l.named.items ≡ map cell_named (all_terms (take l.number l.jobs));
  owners : l.owners.items ≡ owners_from 0 (take l.number l.jobs);
}
