use Rattle.std.proofs.Common.{◌-◌, length}
use Rattle.rx_uses.specs.Links.{AreLists, places_from}
use Rattle.rx_uses.proofs.linking.link_all.Given as goal

abbrev pub invariant-loop-back : goal.invariant-loop-back
invariant-loop-back l = record {
  lists : AreLists l.nexts l.prevs l.named l.heads (places_from (length l.named - l.back) l.named);
}
