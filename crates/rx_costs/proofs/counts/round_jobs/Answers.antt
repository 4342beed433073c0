use Rattle.std.proofs.Common.{◌≡◌, ℕ, ◌+◌, ◌*◌, ◌<◌, ◌≤◌, ap, ◌∙◌, arith}
use Rattle.std.proofs.lemmas.Nat.{mul-le}
use Rattle.rx_costs.specs.Rounds.{groups, round_jobs}
use Rattle.rx_costs.proofs.Groupings.{jobs_none, jobs_step}
use Rattle.rx_costs.proofs.counts.round_jobs.Goals as goal

pub loop-terms-preserved : goal.loop-terms-preserved
loop-terms-preserved c =
    let most : ℕ = c.args.most in
    let w : ℕ = c.args.columns in
    let terms : ℕ = c.loop-terms.terms in
    let next : ℕ = c.next_terms-terms.result in
    let e : next ≡ 2 * groups most terms = c.next_terms-terms.ensures.value in
    let made : c.from.result * c.from-in-loop-terms.result ≡ w * next = ap (λ k. k * c.from-in-loop-terms.result) c.from.ensures ∙ ap (λ k. w * k) c.from-in-loop-terms.ensures in
    let n : round_jobs w most next ≡ round_jobs w most (2 * groups most terms) = ap (round_jobs w most) e in
    let s : round_jobs w most terms ≡ 2 * w * groups most terms + round_jobs w most (2 * groups most terms) = jobs_step w most terms c.requires.groups c.loop-terms-test.true in
    let i : c.loop-terms.jobs + round_jobs w most terms ≡ round_jobs w most c.args.count = c.loop-terms.invariant.0 in
    let u : c.loop-terms.jobs + 8192 * terms ≤ 8192 * c.args.count = c.loop-terms.invariant.1 in
    let t : terms ≤ c.args.count = c.loop-terms.invariant.2 in
    let p : w * next ≡ 2 * w * groups most terms = (let q : w * next ≡ w * (2 * groups most terms) = ap (λ k. w * k) e in omega arith) in
    let l : next < terms = c.next_terms-terms.ensures.fewer in
    let few : next ≤ 128 = omega arith in
    let m : w * next ≤ 64 * 128 = mul-le w next 64 128 c.requires.few_columns few in
    (omega arith, omega arith, omega arith)

pub returns-clause-value : goal.returns-clause-value
returns-clause-value c =
    let i : c.loop-terms.jobs + round_jobs c.args.columns c.args.most c.loop-terms.terms ≡ round_jobs c.args.columns c.args.most c.args.count = c.loop-terms.invariant.0 in
    omega (arith, jobs_none c.args.columns c.args.most c.loop-terms.terms c.loop-terms-test.false)
