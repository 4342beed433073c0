use Rattle.std.proofs.Common.{pos, get_or, refl, arith, rules}
use Rattle.std.proofs.lemmas.Int.{ints, to_z-of_z}
use Rattle.std.proofs.lemmas.List.{get_or_default}
use mir.Syntax.{w8}
use mir.Val.{SFits}
use Rattle.rx_net.specs.declared.term.Term.{Term}
use Rattle.rx_net.proofs.Evaluates.{sum_more}
use Rattle.rx_net.proofs.evaluate.weighted_sum.Goals as goal

pub loop-term-preserved : goal.loop-term-preserved
loop-term-preserved c =
    let t : Term = get_or c.args.terms.now c.loop-term.term-index (record { cell = 0; weight = pos 0 }) in
    let fits : SFits w8 t.weight = search rules in
    sum_more _ _ _ _ _ c.loop-term.invariant t c.loop-term-test.true (get_or_default c.args.terms.now c.loop-term.term-index _ t c.loop-term-test.true)
    _ _ (to_z-of_z w8 t.weight fits) refl c.scaled-sum.result c.scaled-sum.ensures.value c.scaled-sum.ensures.low c.scaled-sum.ensures.high
    _ (omega (arith, ints, c.loop-term.invariant.least, c.loop-term.invariant.most))
