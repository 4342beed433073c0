use Rattle.std.proofs.Common.{◌≡◌, ◌+◌, ◌<◌, ◌++◌, ◌∷◌, [], ℕ, List, length, map, take, replicate, length-take-le, sym, ap, ◌∙◌, arith}
use Rattle.std.proofs.lemmas.List.{take_more, map-append}
use Rattle.rx_net.specs.declared.net.Job.{Job}
use Rattle.rx_uses.specs.Uses.{all_terms, owners_from}
use Rattle.rx_uses.specs.Links.{cell_named}
use Rattle.rx_uses.proofs.Links.{all_terms_more, owners_more}
use Rattle.rx_uses.proofs.terms.list_terms.Goals as goal

pub loop-number-preserved : goal.loop-number-preserved
loop-number-preserved c = let jobs : List Job = c.args.jobs.now in let j : ℕ = c.loop-number.number in let x : Job = c.index-jobs-number.result in
    let test : j < length jobs = c.loop-number-test.true in
    let terms : c.as_slice.result.now ≡ x.terms = c.as_slice.ensures in
    let more : take (j + 1) jobs ≡ take j jobs ++ x ∷ [] = take_more jobs j x test ∙ ap (λ (y : Job). take j jobs ++ y ∷ []) (sym c.index-jobs-number.is) in record {
      named = c.in_ok-push_terms.ensures.named
          ∙ ((λ i. c.loop-number.invariant.named i ++ map cell_named (terms i))
          ∙ (sym (map-append cell_named (all_terms (take j jobs)) x.terms)
          ∙ ap (map cell_named) (sym (ap all_terms more ∙ all_terms_more (take j jobs) x))));
      owners = c.in_ok-push_terms.ensures.owners
          ∙ ((λ i. c.loop-number.invariant.owners i ++ replicate (length (terms i)) j)
          ∙ sym (ap (owners_from 0) more ∙ owners_more 0 j (take j jobs) x (let n = length-take-le j jobs (omega arith) in omega arith)));
    }
