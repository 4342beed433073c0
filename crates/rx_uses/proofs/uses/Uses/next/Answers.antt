use Rattle.std.proofs.Common.{rules, ◌≡◌, ◌<◌, [], length, get_or, sym, ap, ◌∙◌, subst}
use Rattle.std.proofs.lemmas.List.{get_or_read}
use Rattle.rx_uses.specs.Uses.{UsesValue, IsLinked, Follows}
use Rattle.rx_uses.specs.Links.{link_of, walks}
use Rattle.rx_uses.proofs.Links.{chain_within, chain_next}
use Rattle.rx_uses.proofs.Relinks.{linked_chain}
use Rattle.rx_uses.proofs.uses.Uses.next.Goals as goal

pub index-requires : goal.index-requires
index-requires c = let u = c.self.inside in
    let t = subst (λ (z : UsesValue). IsLinked z c.args.node) (sym c.self.view_is) c.requires in
    let l : c.args.node < length u.nexts.items = chain_within u.nexts.items (get_or u.heads.items t.0 0) (get_or (walks u.nexts.items u.heads.items) t.0 []) t.1 c.args.node
    (linked_chain u.nexts.items u.prevs.items u.homes.items u.heads.items t.0 c.self.invariant.0 t.2) t.3 in search rules

pub returns : goal.returns
returns c = let u = c.self.inside in
    subst (λ (z : UsesValue). Follows z c.args.node c.linked.result) c.self.view_is
    (λ n k l at. let ch = linked_chain u.nexts.items u.prevs.items u.homes.items u.heads.items n c.self.invariant.0 l in
    let here : c.index.result.now ≡ get_or u.nexts.items c.args.node 0 = get_or_read u.nexts.items c.args.node c.index.result.now
    (chain_within u.nexts.items (get_or u.heads.items n 0) (get_or (walks u.nexts.items u.heads.items) n []) k c.args.node ch at) c.index.ensures 0 in
    c.linked.ensures ∙ (ap link_of here ∙ chain_next u.nexts.items (get_or u.heads.items n 0) (get_or (walks u.nexts.items u.heads.items) n []) k c.args.node c.self.invariant.0.small ch at))
