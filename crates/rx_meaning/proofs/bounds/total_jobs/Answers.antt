use Rattle.std.proofs.Common.{◌≡◌, ℕ, ◌<◌, List, length, ap, arith}
use Rattle.rx_costs.specs.declared.table.Cost.{Cost}
use Rattle.rx_language.specs.declared.line.Line.{Line}
use Rattle.rx_language.specs.declared.line.Step.{Step}
use Rattle.rx_meaning.specs.Bounds.{cost_of}
use Rattle.rx_meaning.proofs.Sums.{jobs_more, jobs_end}
use Rattle.rx_meaning.proofs.bounds.total_jobs.Goals as goal

pub loop-place-preserved : goal.loop-place-preserved
loop-place-preserved c =
    let h = c.loop-place.invariant in
    let place : ℕ = c.loop-place.place in
    let steps : List Step = c.args.steps.now in
    let x : Line = c.index-lines-place.result in
    let s : Step = c.index-steps-place.result in
    let within : place < length steps = omega (arith, c.requires.same) in
    let more = jobs_more c.args.space steps c.args.lines.now steps place x s c.loop-place-test.true within c.index-lines-place.is c.index-steps-place.is in
    let j : c.cost_of-cost.result.jobs ≡ (cost_of c.args.space steps x s).jobs = ap (λ (cost : Cost). cost.jobs) c.cost_of-cost.ensures.value in
    (omega (arith, more, j, h.0), omega (arith, h.1, c.cost_of-cost.ensures.few))

pub returns : goal.returns
returns c =
    omega (arith, c.loop-place.invariant.0, jobs_end c.args.space c.args.steps.now c.args.lines.now c.args.steps.now c.loop-place.place c.loop-place-test.false)
