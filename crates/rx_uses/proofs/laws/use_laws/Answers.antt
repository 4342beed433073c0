use Rattle.rx_uses.specs.Uses.{all_terms}
use Rattle.rx_uses.proofs.UsesLaw.{node_listed, node_named, node_owned, node_once, naming_grows}
use Rattle.rx_uses.proofs.laws.use_laws.Goals as goal

pub returns : goal.returns
returns c = record {
  listed = node_listed;
  named = node_named;
  owned = node_owned;
  once = node_once;
  ordered = λ net c. naming_grows 0 (all_terms net.jobs) c;
}
