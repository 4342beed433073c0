use Rattle.std.proofs.Common.{◌≡◌, ◌+◌, ◌<◌, ℕ, List, length, sym, subst, rules, arith, ap}
use Rattle.std.specs.Prelude.{Some}
use Rattle.rx_uses.specs.Uses.{node_at, list_of}
use Rattle.rx_uses.proofs.UsesLaw.{owner_is}
use Rattle.rx_uses.proofs.tests.nodes_that_are_moved.Goals as goal

pub link-requires-clause-node : goal.link-requires-clause-node
link-requires-clause-node g c = let of = c.in_ok-uses.ensures in let l : 0 < length c.in_ok-uses.uses.lists = search rules in let cells = of.cells in
    let at : Some c.in-Some-next.second ≡ node_at (list_of c.in_ok-uses.uses 0) (0 + 1) = c.in-Some-next.ensures 0 0 l (sym c.in-Some.ensures) in
    let named = subst (λ (xs : List ℕ). node_at xs (0 + 1) ≡ Some c.in-Some-next.second) (of.lists 0 (omega arith)) (sym at) in
    let node = (owner_is c.in_ok-net.net c.in_ok-uses.uses 0 (0 + 1) c.in-Some-next.second of named).0 in
    let same = ap length c.unlink.ensures.owners in omega arith
