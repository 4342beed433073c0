use Rattle.std.proofs.Common.{◌≡◌, ◌<◌, ℕ, List, [], ◌++◌, length, get_or, set, take, drop, sym, ap, ◌∙◌, subst, rules, arith, length-set}
use Rattle.rx_uses.specs.Uses.{UsesValue, IsLinked, TakesOut}
use Rattle.rx_uses.specs.Links.{AreLinked, walks, heads_without}
use Rattle.rx_uses.proofs.Links.{chain_within}
use Rattle.rx_uses.proofs.Relinks.{IsFree, linked_chain, unlinked_free, unlinking, written_is}
use Rattle.rx_uses.proofs.uses.Uses.unlink.Goals as goal

-- a linked node is a node
within : (nexts prevs homes heads owners : List ℕ) (u : UsesValue) (t : ℕ) → record { lists = walks nexts heads; owners = owners } ≡ u → AreLinked nexts prevs homes heads → IsLinked u t → t < length nexts
within nexts prevs homes heads owners u t is are linked = let at = subst (λ (z : UsesValue). IsLinked z t) (sym is) linked in
    chain_within nexts (get_or heads at.0 0) (get_or (walks nexts heads) at.0 []) at.1 t (linked_chain nexts prevs homes heads at.0 are at.2) at.3

pub take_out-requires-clause-next : goal.take_out-requires-clause-next
take_out-requires-clause-next c = let u = c.self.inside in
    let l = within u.nexts.items u.prevs.items u.homes.items u.heads.items u.owners.items c.args.self.now c.args.node c.self.view_is c.self.invariant.0 c.requires in
    let n = ap length c.as_mut_slice-2.ensures.value in omega arith

pub take_out-requires-clause-previous : goal.take_out-requires-clause-previous
take_out-requires-clause-previous c = let u = c.self.inside in
    let l = within u.nexts.items u.prevs.items u.homes.items u.heads.items u.owners.items c.args.self.now c.args.node c.self.view_is c.self.invariant.0 c.requires in
    let n = ap length c.as_mut_slice-3.ensures.value in let m = c.self.invariant.0.prevs_length in omega arith

pub take_out-requires-clause-home : goal.take_out-requires-clause-home
take_out-requires-clause-home c = let u = c.self.inside in
    let l = within u.nexts.items u.prevs.items u.homes.items u.heads.items u.owners.items c.args.self.now c.args.node c.self.view_is c.self.invariant.0 c.requires in
    let n = ap length c.as_slice.ensures.value in let m = c.self.invariant.0.homes_length in omega arith

pub invariant_of-self : goal.invariant_of-self
invariant_of-self c = let u = c.self.inside in let t : ℕ = c.args.node in
    let N : List ℕ = u.nexts.items in let P : List ℕ = u.prevs.items in let O : List ℕ = u.homes.items in let H : List ℕ = u.heads.items in
    let at = subst (λ (z : UsesValue). IsLinked z t) (sym c.self.view_is) c.requires in
    let r = unlinking N P O H t at.0 at.1 c.self.invariant.0 at.2 at.3 in
    let nexts = written_is u.nexts.len N c.take_out.new.nexts (set N (get_or P t 0) (get_or N t 0)) (search rules)
    (c.take_out.ensures.nexts ∙ (λ i. set (c.as_mut_slice-2.ensures.value i) (get_or (c.as_mut_slice-3.ensures.value i) t 0) (get_or (c.as_mut_slice-2.ensures.value i) t 0))) in
    let prevs = written_is u.prevs.len P c.take_out.new.prevs (set P (get_or N t 0) (get_or P t 0)) (search rules)
    (c.take_out.ensures.prevs ∙ (λ i. set (c.as_mut_slice-3.ensures.value i) (get_or (c.as_mut_slice-2.ensures.value i) t 0) (get_or (c.as_mut_slice-3.ensures.value i) t 0))) in
    let heads = written_is u.heads.len H c.take_out.new.heads (heads_without N P O H t) (search rules)
    (c.take_out.ensures.heads ∙ (λ i. heads_without (c.as_mut_slice-2.ensures.value i) (c.as_mut_slice-3.ensures.value i) (c.as_slice.ensures.value i) (c.as_mut_slice.ensures.value i) t)) in
    subst (λ (z : List ℕ × List ℕ × List ℕ). AreLinked z.0 z.1 O z.2 × (length u.owners.items ≡ length z.0)) (λ i. (sym nexts i, sym prevs i, sym heads i))
    (r.linked, (let m = length-set N (get_or P t 0) (get_or N t 0) in let own : length u.owners.items ≡ length N = c.self.invariant.1 in omega arith))

pub returns-clause-lists : goal.returns-clause-lists
returns-clause-lists c = let u = c.self.inside in let t : ℕ = c.args.node in
    let N : List ℕ = u.nexts.items in let P : List ℕ = u.prevs.items in let O : List ℕ = u.homes.items in let H : List ℕ = u.heads.items in
    let nexts = written_is u.nexts.len N c.take_out.new.nexts (set N (get_or P t 0) (get_or N t 0)) (search rules)
    (c.take_out.ensures.nexts ∙ (λ i. set (c.as_mut_slice-2.ensures.value i) (get_or (c.as_mut_slice-3.ensures.value i) t 0) (get_or (c.as_mut_slice-2.ensures.value i) t 0))) in
    let heads = written_is u.heads.len H c.take_out.new.heads (heads_without N P O H t) (search rules)
    (c.take_out.ensures.heads ∙ (λ i. heads_without (c.as_mut_slice-2.ensures.value i) (c.as_mut_slice-3.ensures.value i) (c.as_slice.ensures.value i) (c.as_mut_slice.ensures.value i) t)) in
    let told : TakesOut record { lists = walks N H; owners = u.owners.items } t (walks (take u.nexts.len (c.take_out.new.nexts ++ drop (length c.take_out.new.nexts) N)) (take u.heads.len (c.take_out.new.heads ++ drop (length c.take_out.new.heads) H)))
    = λ d k l at. (λ i. walks (nexts i) (heads i)) ∙ (unlinking N P O H t d k c.self.invariant.0 l at).lists_are in
    subst (λ (z : UsesValue). TakesOut z t (walks (take u.nexts.len (c.take_out.new.nexts ++ drop (length c.take_out.new.nexts) N)) (take u.heads.len (c.take_out.new.heads ++ drop (length c.take_out.new.heads) H)))) c.self.view_is told

pub returns-clause-free : goal.returns-clause-free
returns-clause-free c = let u = c.self.inside in let t : ℕ = c.args.node in
    let N : List ℕ = u.nexts.items in let P : List ℕ = u.prevs.items in let O : List ℕ = u.homes.items in let H : List ℕ = u.heads.items in
    let at = subst (λ (z : UsesValue). IsLinked z t) (sym c.self.view_is) c.requires in
    let nexts = written_is u.nexts.len N c.take_out.new.nexts (set N (get_or P t 0) (get_or N t 0)) (search rules)
    (c.take_out.ensures.nexts ∙ (λ i. set (c.as_mut_slice-2.ensures.value i) (get_or (c.as_mut_slice-3.ensures.value i) t 0) (get_or (c.as_mut_slice-2.ensures.value i) t 0))) in
    let heads = written_is u.heads.len H c.take_out.new.heads (heads_without N P O H t) (search rules)
    (c.take_out.ensures.heads ∙ (λ i. heads_without (c.as_mut_slice-2.ensures.value i) (c.as_mut_slice-3.ensures.value i) (c.as_slice.ensures.value i) (c.as_mut_slice.ensures.value i) t)) in
    let lists = (λ i. walks (nexts i) (heads i)) ∙ (unlinking N P O H t at.0 at.1 c.self.invariant.0 at.2 at.3).lists_are in
    let free = subst (λ (zs : List (List ℕ)). IsFree zs t) (sym lists) (unlinked_free N P O H t at.0 at.1 c.self.invariant.0 at.2 at.3) in
    λ f. free f.0 f.1 f.2 f.3
