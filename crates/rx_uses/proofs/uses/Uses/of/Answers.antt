use Rattle.std.proofs.Common.{◌≡◌, ◌+◌, ◌<◌, ◌++◌, [], ℕ, List, length, get_or, map, take, drop, sym, refl, ap, ◌∙◌, subst, rules, arith}
use Rattle.std.proofs.lemmas.List.{length-map}
use Rattle.rx_net.specs.declared.term.Term.{Term}
use Rattle.rx_net.specs.declared.net.Job.{Job}
use Rattle.rx_net.specs.Cells.{input_cells}
use Rattle.rx_uses.specs.Uses.{all_terms, owners_from}
use Rattle.rx_uses.specs.Links.{cell_named, AreLists, AreLinked, walks, places_from}
use Rattle.rx_uses.proofs.Legality.{lawful}
use Rattle.rx_uses.proofs.Links.{naming_places}
use Rattle.rx_uses.proofs.Relinks.{are_linked, lists_are, length-walks, written_is}
use Rattle.rx_uses.proofs.UsesLaw.{length-all_terms, length-owners, named_within}
use Rattle.rx_uses.proofs.uses.Uses.of.Goals as goal

pub link_all-requires-clause-small : goal.link_all-requires-clause-small
link_all-requires-clause-small c = let js : List Job = c.args.net.now.jobs in let ts : List Term = all_terms js in
    let same : c.as_slice.result.now ≡ c.list_terms.new.named.items = search rules in
    let is : length c.as_slice.result.now ≡ length ts = ap length (same ∙ c.in_ok-list_terms.ensures.named ∙ ap (λ (xs : List Job). map cell_named (all_terms xs)) c.as_slice-jobs.ensures) ∙ length-map ts cell_named in
    let law = lawful c.args.net.now c.requires in let few = length-all_terms js law.few in let jobs = law.jobs in omega arith

pub link_all-requires-clause-cells : goal.link_all-requires-clause-cells
link_all-requires-clause-cells c = λ t l. let js : List Job = c.args.net.now.jobs in let ts : List Term = all_terms js in
    let same : c.as_slice.result.now ≡ c.list_terms.new.named.items = search rules in
    let is : c.as_slice.result.now ≡ map cell_named ts = same ∙ c.in_ok-list_terms.ensures.named ∙ ap (λ (xs : List Job). map cell_named (all_terms xs)) c.as_slice-jobs.ensures in
    let n = ap length is in let m = length-map ts cell_named in
    let w = named_within c.args.net.now c.requires t (omega arith) in
    let long : length c.as_mut_slice.result.now ≡ input_cells c.args.net.now.space c.args.net.now.inputs + length js = search rules in
    subst (λ (xs : List ℕ). get_or xs t 0 < length c.as_mut_slice.result.now) (sym is) (subst (λ (z : ℕ). get_or (map cell_named ts) t 0 < z) (sym long) w)

pub invariant_of-result : goal.invariant_of-result
invariant_of-result c = let N : List ℕ = c.link_all.new.nexts in let P : List ℕ = c.link_all.new.prevs in let H : List ℕ = c.link_all.new.heads in
    let named : List ℕ = c.list_terms.new.named.items in
    let links : AreLists N P named H (places_from 0 named) = subst (λ (xs : List ℕ). AreLists N P xs H (places_from 0 xs)) c.as_slice.ensures.value c.link_all.ensures in
    let nexts = written_is c.in_ok-nexts.nexts.len c.in_ok-nexts.nexts.items N N (search rules) refl in
    let prevs = written_is c.in_ok-prevs.prevs.len c.in_ok-prevs.prevs.items P P (search rules) refl in
    let heads = written_is c.in_ok-heads.heads.len c.in_ok-heads.heads.items H H (search rules) refl in
    let own = ap length c.in_ok-list_terms.ensures.owners in let all = length-owners 0 c.as_slice-jobs.result.now in
    let cells = ap length c.in_ok-list_terms.ensures.named in let each = length-map (all_terms c.as_slice-jobs.result.now) cell_named in let homes = links.homes_length in
    subst (λ (z : List ℕ × List ℕ × List ℕ). AreLinked z.0 z.1 named z.2 × (length c.list_terms.new.owners.items ≡ length z.0)) (λ i. (sym nexts i, sym prevs i, sym heads i))
    (are_linked N P named H (places_from 0 named) links, omega arith)

pub returns : goal.returns
returns c = let js : List Job = c.args.net.now.jobs in let ts : List Term = all_terms js in
    let N : List ℕ = c.link_all.new.nexts in let P : List ℕ = c.link_all.new.prevs in let H : List ℕ = c.link_all.new.heads in
    let is : c.as_slice.result.now ≡ map cell_named ts = c.as_slice.ensures.value ∙ c.in_ok-list_terms.ensures.named ∙ ap (λ (xs : List Job). map cell_named (all_terms xs)) c.as_slice-jobs.ensures in
    let links : AreLists N P (map cell_named ts) H (places_from 0 (map cell_named ts)) = subst (λ (xs : List ℕ). AreLists N P xs H (places_from 0 xs)) is c.link_all.ensures in
    let nexts = written_is c.in_ok-nexts.nexts.len c.in_ok-nexts.nexts.items N N (search rules) refl in
    let heads = written_is c.in_ok-heads.heads.len c.in_ok-heads.heads.items H H (search rules) refl in
    let long : length H ≡ input_cells c.args.net.now.space c.args.net.now.inputs + length js = search rules in
    let lists : walks (take c.in_ok-nexts.nexts.len (N ++ drop (length N) c.in_ok-nexts.nexts.items)) (take c.in_ok-heads.heads.len (H ++ drop (length H) c.in_ok-heads.heads.items)) ≡ walks N H
    = λ i. walks (nexts i) (heads i) in record {
      cells = ap length lists ∙ (length-walks N H ∙ long);
      lists = λ d l. ap (λ (xs : List (List ℕ)). get_or xs d []) lists ∙ (lists_are N P (map cell_named ts) H (places_from 0 (map cell_named ts)) links d (omega arith) ∙ sym (naming_places 0 ts d));
      owners = c.in_ok-list_terms.ensures.owners ∙ ap (owners_from 0) c.as_slice-jobs.ensures;
    }
