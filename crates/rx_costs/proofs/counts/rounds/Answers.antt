use Rattle.std.proofs.Common.{◌≡◌, ℕ, ◌+◌, ◌*◌, ap, arith}
use Rattle.rx_costs.specs.Rounds.{groups, rounds}
use Rattle.rx_costs.proofs.Groupings.{rounds_none, rounds_step}
use Rattle.rx_costs.proofs.counts.rounds.Goals as goal

pub loop-terms-preserved : goal.loop-terms-preserved
loop-terms-preserved c =
    let most : ℕ = c.args.most in
    let n : rounds most c.next_terms-terms.result ≡ rounds most (2 * groups most c.loop-terms.terms) = ap (rounds most) c.next_terms-terms.ensures.value in
    let s : rounds most c.loop-terms.terms ≡ 1 + rounds most (2 * groups most c.loop-terms.terms) = rounds_step most c.loop-terms.terms c.requires c.loop-terms-test.true in
    let i : c.loop-terms.made + rounds most c.loop-terms.terms ≡ rounds most c.args.count = c.loop-terms.invariant.0 in
    (omega arith, omega arith)

pub returns-clause-value : goal.returns-clause-value
returns-clause-value c =
    let i : c.loop-terms.made + rounds c.args.most c.loop-terms.terms ≡ rounds c.args.most c.args.count = c.loop-terms.invariant.0 in
    omega (arith, rounds_none c.args.most c.loop-terms.terms c.loop-terms-test.false)
