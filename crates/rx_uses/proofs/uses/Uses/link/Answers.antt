use Rattle.std.proofs.Common.{◌≡◌, ℕ, List, length, get_or, set, sym, ap, ◌∙◌, subst, rules, arith, length-set}
use Rattle.rx_uses.specs.Uses.{UsesValue, IsLinked, put_first}
use Rattle.rx_uses.specs.Links.{AreLinked, walks}
use Rattle.rx_uses.proofs.Relinks.{IsFree, length-walks, linking, written_is}
use Rattle.rx_uses.proofs.uses.Uses.link.Goals as goal

pub invariant_of-self : goal.invariant_of-self
invariant_of-self c = let u = c.self.inside in let t : ℕ = c.args.node in let e : ℕ = c.args.cell in
    let N : List ℕ = u.nexts.items in let P : List ℕ = u.prevs.items in let O : List ℕ = u.homes.items in let H : List ℕ = u.heads.items in
    let own : length u.owners.items ≡ length c.args.self.now.owners = ap (λ (z : UsesValue). length z.owners) c.self.view_is in
    let lists : length (walks N H) ≡ length c.args.self.now.lists = ap (λ (z : UsesValue). length z.lists) c.self.view_is in
    let same : length u.owners.items ≡ length N = c.self.invariant.1 in let n = length-walks N H in let node = c.requires.node in let cell = c.requires.cell in
    let free : IsFree (walks N H) t = λ d k l at. subst (λ (z : UsesValue). IsLinked z t → ⊥) (sym c.self.view_is) c.requires.free (d, k, l, at) in
    let r = linking N P O H t e c.self.invariant.0 (omega arith) (omega arith) free in
    let nexts = written_is u.nexts.len N c.put_first.new.nexts (set N t (get_or H e 0)) (search rules)
    (c.put_first.ensures.nexts ∙ (λ i. set (c.as_mut_slice-2.ensures.value i) t (get_or (c.as_mut_slice.ensures.value i) e 0))) in
    let prevs = written_is u.prevs.len P c.put_first.new.prevs (set (set P t 4294967295) (get_or H e 0) t) (search rules)
    (c.put_first.ensures.prevs ∙ (λ i. set (set (c.as_mut_slice-3.ensures.value i) t 4294967295) (get_or (c.as_mut_slice.ensures.value i) e 0) t)) in
    let heads = written_is u.heads.len H c.put_first.new.heads (set H e t) (search rules) (c.put_first.ensures.heads ∙ ap (λ (xs : List ℕ). set xs e t) c.as_mut_slice.ensures.value) in
    subst (λ (z : List ℕ × List ℕ × List ℕ). AreLinked z.0 z.1 (set O t e) z.2 × (length u.owners.items ≡ length z.0)) (λ i. (sym nexts i, sym prevs i, sym heads i))
    (r.linked, (let m = length-set N t (get_or H e 0) in omega arith))

pub returns-clause-lists : goal.returns-clause-lists
returns-clause-lists c = let u = c.self.inside in let t : ℕ = c.args.node in let e : ℕ = c.args.cell in
    let N : List ℕ = u.nexts.items in let P : List ℕ = u.prevs.items in let O : List ℕ = u.homes.items in let H : List ℕ = u.heads.items in
    let own : length u.owners.items ≡ length c.args.self.now.owners = ap (λ (z : UsesValue). length z.owners) c.self.view_is in
    let lists : length (walks N H) ≡ length c.args.self.now.lists = ap (λ (z : UsesValue). length z.lists) c.self.view_is in
    let same : length u.owners.items ≡ length N = c.self.invariant.1 in let n = length-walks N H in let node = c.requires.node in let cell = c.requires.cell in
    let free : IsFree (walks N H) t = λ d k l at. subst (λ (z : UsesValue). IsLinked z t → ⊥) (sym c.self.view_is) c.requires.free (d, k, l, at) in
    let r = linking N P O H t e c.self.invariant.0 (omega arith) (omega arith) free in
    let nexts = written_is u.nexts.len N c.put_first.new.nexts (set N t (get_or H e 0)) (search rules)
    (c.put_first.ensures.nexts ∙ (λ i. set (c.as_mut_slice-2.ensures.value i) t (get_or (c.as_mut_slice.ensures.value i) e 0))) in
    let heads = written_is u.heads.len H c.put_first.new.heads (set H e t) (search rules) (c.put_first.ensures.heads ∙ ap (λ (xs : List ℕ). set xs e t) c.as_mut_slice.ensures.value) in
    (λ i. walks (nexts i) (heads i)) ∙ (r.lists_are ∙ ap (λ (z : UsesValue). put_first z t e) c.self.view_is)
