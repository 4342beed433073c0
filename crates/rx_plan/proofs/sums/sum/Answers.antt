use Rattle.std.proofs.Common.{◌≡◌, pos, List, length, map, sym, ◌∙◌, ap, arith, subst}
use Rattle.std.proofs.lemmas.Result.{IfOk-weaker}
use Rattle.rx_net.specs.declared.term.Term.{Term}
use Rattle.rx_net.specs.Cells.{cell_count, degree, noise}
use Rattle.rx_net.specs.Legal.{JobFits}
use Rattle.rx_plan.proofs.UnitTerms.{unit_term, unit_count, unit_fits, unit_makes}
use Rattle.rx_plan.proofs.sums.sum.Goals as goal

pub place-requires-clause-few : goal.place-requires-clause-few
place-requires-clause-few c =
    let e : c.deref.result.now ≡ map unit_term c.args.operands.now = c.deref.ensures.value ∙ c.in_ok-terms.ensures in
    let n : length c.deref.result.now ≡ length c.args.operands.now = ap (λ (ts : List Term). length ts) e ∙ unit_count c.args.operands.now in
    omega (arith, c.requires.few)

pub place-requires-clause-fits : goal.place-requires-clause-fits
place-requires-clause-fits c =
    let p = c.args.pen.now in
    let r = c.requires in
    let e : c.deref.result.now ≡ map unit_term c.args.operands.now = c.deref.ensures.value ∙ c.in_ok-terms.ensures in
    subst (λ (ts : List Term). JobFits p.space (cell_count p) (degree p) (noise p) ts (pos 0) c.args.table.now) (sym e)
    (unit_fits p.space (cell_count p) (degree p) (noise p) c.args.operands.now c.args.table.now r.there r.range r.noises r.table)

pub returns-clause-makes : goal.returns-clause-makes
returns-clause-makes c =
    let p = c.args.pen.now in
    let r = c.requires in
    let e : c.deref.result.now ≡ map unit_term c.args.operands.now = c.deref.ensures.value ∙ c.in_ok-terms.ensures in
    let f : JobFits p.space (cell_count p) (degree p) (noise p) c.deref.result.now (pos 0) c.args.table.now =
    subst (λ (ts : List Term). JobFits p.space (cell_count p) (degree p) (noise p) ts (pos 0) c.args.table.now) (sym e)
    (unit_fits p.space (cell_count p) (degree p) (noise p) c.args.operands.now c.args.table.now r.there r.range r.noises r.table) in
    IfOk-weaker c.place.result _ _ (λ k h. unit_makes p c.place.new.self k c.args.operands.now c.args.table.now c.deref.result.now e f h) c.place.ensures.adds
