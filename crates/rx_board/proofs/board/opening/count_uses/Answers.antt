use Rattle.std.proofs.Common.{◌≡◌, ◌<◌, ◌+◌, ◌-◌, ℕ, sym, ap, ◌∙◌, subst, length, get_or, arith, refl, List, []}
use Rattle.std.specs.Prelude.{Some}
use Rattle.rx_uses.specs.Uses.{nodes_of, node_at}
use Rattle.rx_uses.proofs.Legality.{lawful}
use Rattle.rx_uses.proofs.UsesLaw.{at_node, owner_is, length-nodes, no_node}
use Rattle.rx_board.specs.Rule.{input_count, count_place}
use Rattle.rx_board.proofs.Places.{inside}
use Rattle.rx_board.proofs.Opens.{opening_more, opening_next, count_small}
use Rattle.rx_board.proofs.board.opening.count_uses.Goals as goal

pub owner-requires : goal.owner-requires
owner-requires c = let n = c.args.net.now in (owner_is n c.args.uses.now (input_count n + c.args.job) c.loop-next.done c.in-Some.node c.requires.uses (sym c.loop-next.invariant.next ∙ c.in-Some.is)).0

pub bounds-words-place : goal.bounds-words-place
bounds-words-place c = let n = c.args.net.now in let o = owner_is n c.args.uses.now (input_count n + c.args.job) c.loop-next.done c.in-Some.node c.requires.uses (sym c.loop-next.invariant.next ∙ c.in-Some.is) in
    let l = inside (c.args.width + 2) c.owner.result (length n.jobs) 1 (subst (λ (z : ℕ). z < length n.jobs) (sym (c.owner.ensures ∙ o.1)) o.2) (omega arith) in
    subst (λ (z : ℕ). count_place c.args.width c.owner.result < z) (sym c.loop-next.invariant.counted.long) l

pub bounds-words-place-in-Some : goal.bounds-words-place-in-Some
bounds-words-place-in-Some c = let n = c.args.net.now in let o = owner_is n c.args.uses.now (input_count n + c.args.job) c.loop-next.done c.in-Some.node c.requires.uses (sym c.loop-next.invariant.next ∙ c.in-Some.is) in
    let l = inside (c.args.width + 2) c.owner.result (length n.jobs) 1 (subst (λ (z : ℕ). z < length n.jobs) (sym (c.owner.ensures ∙ o.1)) o.2) (omega arith) in
    subst (λ (z : ℕ). count_place c.args.width c.owner.result < z) (sym c.loop-next.invariant.counted.long) l

pub overflow_add-words : goal.overflow_add-words
overflow_add-words c = let n = c.args.net.now in let o = owner_is n c.args.uses.now (input_count n + c.args.job) c.loop-next.done c.in-Some.node c.requires.uses (sym c.loop-next.invariant.next ∙ c.in-Some.is) in
    let small = count_small n c.args.width c.requires.net c.args.job c.loop-next.done c.loop-next.words c.loop-next.invariant.counted c.requires.job o.3 (count_place c.args.width c.owner.result) (ap (count_place c.args.width) (c.owner.ensures ∙ o.1)) in omega arith

pub overflow_add-done : goal.overflow_add-done
overflow_add-done c = let n = c.args.net.now in let few = length-nodes n (input_count n + c.args.job) (lawful n c.requires.net).few in let jobs = (lawful n c.requires.net).jobs in
    let more = (at_node (nodes_of n (input_count n + c.args.job)) c.loop-next.done c.in-Some.node (sym c.loop-next.invariant.next ∙ c.in-Some.is)).0 in omega arith

pub loop-next-smaller : goal.loop-next-smaller
loop-next-smaller c = let n = c.args.net.now in let us = nodes_of n (input_count n + c.args.job) in
    let more = (at_node us c.loop-next.done c.in-Some.node (sym c.loop-next.invariant.next ∙ c.in-Some.is)).0 in
    let less : length us - (c.loop-next.done + 1) < length us - c.loop-next.done = omega arith in less

pub loop-next-preserved : goal.loop-next-preserved
loop-next-preserved c = let n = c.args.net.now in let us = nodes_of n (input_count n + c.args.job) in let at : node_at us c.loop-next.done ≡ Some c.in-Some.node = sym c.loop-next.invariant.next ∙ c.in-Some.is in
    let o = owner_is n c.args.uses.now (input_count n + c.args.job) c.loop-next.done c.in-Some.node c.requires.uses at in
    let job : c.args.job < length n.jobs = c.requires.job in
    let cell : input_count n + c.args.job < input_count n + length n.jobs = omega arith in
    let cell' : input_count n + c.args.job < length c.args.uses.now.lists = subst (λ (z : ℕ). input_count n + c.args.job < z) (sym c.requires.uses.cells) cell in
    let list : get_or c.args.uses.now.lists (input_count n + c.args.job) [] ≡ us = c.requires.uses.lists (input_count n + c.args.job) cell in record {
      next = c.next-next.ensures (input_count n + c.args.job) c.loop-next.done cell' (ap (λ (xs : List ℕ). node_at xs c.loop-next.done) list ∙ at) ∙ ap (λ (xs : List ℕ). node_at xs (c.loop-next.done + 1)) list;
      some = let more = o.3 in omega arith;
      counted = opening_more n c.args.width c.args.job c.loop-next.done c.loop-next.words c.loop-next.invariant.counted o.3 (count_place c.args.width c.owner.result) (get_or c.loop-next.words (count_place c.args.width c.owner.result) 0 + 1) (ap (count_place c.args.width) (c.owner.ensures ∙ o.1)) refl;
    }

pub returns : goal.returns
returns c = let n = c.args.net.now in let inv = c.loop-next.invariant in
    opening_next n c.args.width c.args.job c.loop-next.done c.loop-next.words inv.counted (no_node (nodes_of n (input_count n + c.args.job)) c.loop-next.done (sym inv.next ∙ c.in_default.is))
