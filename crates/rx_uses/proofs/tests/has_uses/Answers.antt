use Rattle.std.proofs.Common.{◌≡◌, ℕ, List, sym, ◌∙◌, subst, arith}
use Rattle.std.specs.Prelude.{Some}
use Rattle.rx_uses.specs.Uses.{node_at}
use Rattle.rx_uses.proofs.UsesLaw.{owner_is}
use Rattle.rx_uses.proofs.tests.has_uses.Goals as goal

pub owner-requires : goal.owner-requires
owner-requires c = let of = c.requires.uses in let l = c.requires.cell in let cells = of.cells in
    let at = subst (λ (xs : List ℕ). node_at xs c.loop-node.node-index ≡ Some c.in-Some.found) (of.lists c.args.cell (omega arith)) (sym c.loop-node.invariant ∙ c.in-Some.is) in
    (owner_is c.args._net.now c.args.uses.now c.args.cell c.loop-node.node-index c.in-Some.found of at).0

pub next-at-requires : goal.next-at-requires
next-at-requires c = (c.args.cell, c.loop-node.node-index, c.requires.cell, sym c.loop-node.invariant ∙ c.in-Some.is)

pub loop-node-preserved : goal.loop-node-preserved
loop-node-preserved c = c.next-at.ensures c.args.cell c.loop-node.node-index c.requires.cell (sym c.loop-node.invariant ∙ c.in-Some.is)
