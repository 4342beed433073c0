use Rattle.std.proofs.Common.{◌≡◌, ◌^◌, ◌∙◌, ap}
use Rattle.std.proofs.lemmas.Result.{IfOk-weaker}
use Rattle.rx_carry.proofs.BlockJobs.{looks_with_as, sum_looks_with, difference_looks_with, negation_looks_with}
use Rattle.rx_carry.specs.declared.operation.Operation.TheVariants.{Sum, Difference, Negation}
use Rattle.rx_carry.proofs.lookups.look_up_with.Goals as goal

pub returns-in-Sum-clause-makes : goal.returns-in-Sum-clause-makes
returns-in-Sum-clause-makes c =
    IfOk-weaker c.triple.result _ _ (λ k m. looks_with_as c.args.operation Sum c.args.pen.now c.triple.new.pen c.args.x c.args.y c.args.carry k _ c.args.table.now c.in-Sum.is
    (sum_looks_with c.args.pen.now c.triple.new.pen c.args.x c.args.y c.args.carry k c.args.table.now c.requires.first c.requires.second c.requires.third m)) c.triple.ensures.makes

pub returns-in-Difference-clause-makes : goal.returns-in-Difference-clause-makes
returns-in-Difference-clause-makes c =
    let p = c.args.pen.now in
    let e : c.unit_of-unit.result ≡ 2 ^ p.space = c.unit_of-unit.ensures.value ∙ ap (λ s. 2 ^ s) c.space.ensures.value in
    IfOk-weaker c.difference_with_borrow.result _ _ (λ k m. looks_with_as c.args.operation Difference p c.difference_with_borrow.new.pen c.args.x c.args.y c.args.carry k _ c.args.table.now c.in-Difference.is
    (difference_looks_with p c.difference_with_borrow.new.pen c.args.x c.args.y c.args.carry k c.args.table.now c.requires.first c.requires.second c.requires.third c.unit_of-unit.result e m)) c.difference_with_borrow.ensures.makes

pub returns-in-Negation-clause-makes : goal.returns-in-Negation-clause-makes
returns-in-Negation-clause-makes c =
    IfOk-weaker c.pair.result _ _ (λ k m. looks_with_as c.args.operation Negation c.args.pen.now c.pair.new.pen c.args.x c.args.y c.args.carry k _ c.args.table.now c.in-Negation.is
    (negation_looks_with c.args.pen.now c.pair.new.pen c.args.x c.args.y c.args.carry k c.args.table.now c.requires.first c.requires.second c.requires.third m)) c.pair.ensures.makes
