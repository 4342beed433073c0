use Rattle.std.proofs.Common.{◌≡◌, ℕ, ◌+◌, ◌*◌, ◌<◌, ◌≤◌, List, [], ◌∷◌, ◌++◌, length, get_or, drop, sym, ap, ◌∙◌, subst, arith}
use Rattle.rx_language.specs.declared.line.Line.{Line}
use Rattle.rx_language.specs.declared.line.Step.{Step}
use Rattle.rx_meaning.specs.Bounds.{cost_of, costs_of, greatest_at, depth_after, depths_from}
use Rattle.rx_meaning.proofs.Known.{kind_here}
use Rattle.rx_meaning.proofs.Sums.{depths_more, depths_end, greatest_below, below_push}
use Rattle.rx_meaning.proofs.bounds.line_depths.Goals as goal

pub cost_of-cost-requires-clause-kind : goal.cost_of-cost-requires-clause-kind
cost_of-cost-requires-clause-kind c =
    kind_here c.args.space c.args.steps.now c.loop-place.place c.index-steps-place.result c.requires.kinds (omega (arith, c.requires.same)) c.index-steps-place.is

pub loop-place-preserved : goal.loop-place-preserved
loop-place-preserved c =
    let h = c.loop-place.invariant in
    let space : ℕ = c.args.space in
    let place : ℕ = c.loop-place.place in
    let all : List Step = c.args.steps.now in
    let done : List ℕ = c.loop-place.depths.items in
    let x : Line = c.index-lines-place.result in
    let s : Step = c.index-steps-place.result in
    let d : ℕ = c.depth_after-depth.result in
    let lines : List Line = drop (place + 1) c.args.lines.now in
    let steps : List Step = drop (place + 1) all in
    let within : place < length all = omega (arith, c.requires.same) in
    let own : d ≡ depth_after done c.cost_of-cost.result s = c.depth_after-depth.ensures ∙ ap (λ before. depth_after before c.cost_of-cost.result s) c.deref.ensures.value in
    let g : d ≡ depth_after done (cost_of space all x s) s = own ∙ ap (λ cost. depth_after done cost s) c.cost_of-cost.ensures.value in
    let m = depths_more space all done c.args.lines.now all place x s d c.loop-place-test.true within c.index-lines-place.is c.index-steps-place.is g in
    let items : c.push.new.self.items ≡ done ++ d ∷ [] = c.in_ok-push.ensures.items in
    let deep : greatest_at done s.sources ≤ 8192 * place = greatest_below done (8192 * place) h.below s.sources in
    let near : d ≤ 8192 * (place + 1) = omega (arith, own, deep, c.cost_of-cost.ensures.shallow) in
    record {
      whole =
          ap (λ depths. depths ++ depths_from depths (costs_of space all lines steps) steps) items
          ∙ sym m
          ∙ h.whole;
      below = λ k. subst (λ (depths : List ℕ). get_or depths k 0 ≤ 8192 * (place + 1)) (sym items)
          (below_push done d (8192 * place) (8192 * (place + 1)) h.below (omega arith) near k);
    }

pub returns : goal.returns
returns c =
    sym (depths_end c.args.space c.args.steps.now c.loop-place.depths.items c.args.lines.now c.args.steps.now c.loop-place.place c.loop-place-test.false)
    ∙ c.loop-place.invariant.whole
