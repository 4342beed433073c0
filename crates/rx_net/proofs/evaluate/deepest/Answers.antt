use Rattle.std.proofs.Common.{◌<◌, get_or, arith, length}
use Rattle.std.proofs.lemmas.List.{get_or_default}
use Rattle.std.specs.Prelude.{pos}
use Rattle.rx_net.specs.declared.term.Term.{Term}
use Rattle.rx_net.proofs.Sums.{at_place}
use Rattle.rx_net.proofs.Evaluates.{deepest_more, deepest_done}
use Rattle.rx_net.proofs.evaluate.deepest.Goals as goal
use Rattle.rx_net.proofs.evaluate.deepest.Goals.{then-depth-most, else-depth-most}

pub loop-term-preserved : goal.loop-term-preserved
loop-term-preserved c =
    let t : Term = get_or c.args.terms.now c.loop-term.term-index (record { cell = 0; weight = pos 0 }) in
    let e = get_or_default c.args.terms.now c.loop-term.term-index (record { cell = 0; weight = pos 0 }) t c.loop-term-test.true in
    let l : t.cell < length c.args.depths.now = at_place (λ (t : Term). t.cell < length c.args.depths.now) c.args.terms.now c.loop-term.term-index t c.requires c.loop-term-test.true e in
    deepest_more c.args.depths.now c.args.terms.now c.loop-term.term-index c.loop-term.most c.loop-term.invariant t c.loop-term-test.true e l c.if-depth-most.most
    (elim c.if-depth-most.branch [ then-depth-most w ↦ omega arith | else-depth-most w ↦ omega arith ])

pub returns-clause-value : goal.returns-clause-value
returns-clause-value c = deepest_done c.args.depths.now c.args.terms.now c.loop-term.term-index c.loop-term.most c.loop-term.invariant c.loop-term-test.false
