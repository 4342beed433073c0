use Rattle.std.proofs.Common.{◌≡◌, ◌^◌, ◌∙◌, ap}
use Rattle.std.proofs.lemmas.Result.{IfOk-weaker}
use Rattle.rx_carry.proofs.BlockJobs.{looks_as, sum_looks, difference_looks, negation_looks}
use Rattle.rx_carry.specs.declared.operation.Operation.TheVariants.{Sum, Difference, Negation}
use Rattle.rx_carry.proofs.lookups.look_up.Goals as goal

pub returns-in-Sum-clause-makes : goal.returns-in-Sum-clause-makes
returns-in-Sum-clause-makes c =
    IfOk-weaker c.pair.result _ _ (λ k m. looks_as c.args.operation Sum c.args.pen.now c.pair.new.pen c.args.x c.args.y k _ c.args.table.now c.in-Sum.is
    (sum_looks c.args.pen.now c.pair.new.pen c.args.x c.args.y k c.args.table.now c.requires.first c.requires.second m)) c.pair.ensures.makes

pub returns-in-Difference-clause-makes : goal.returns-in-Difference-clause-makes
returns-in-Difference-clause-makes c =
    let p = c.args.pen.now in
    let e : c.unit_of-unit.result ≡ 2 ^ p.space = c.unit_of-unit.ensures.value ∙ ap (λ s. 2 ^ s) c.space.ensures.value in
    IfOk-weaker c.difference.result _ _ (λ k m. looks_as c.args.operation Difference p c.difference.new.pen c.args.x c.args.y k _ c.args.table.now c.in-Difference.is
    (difference_looks p c.difference.new.pen c.args.x c.args.y k c.args.table.now c.requires.first c.requires.second c.unit_of-unit.result e m)) c.difference.ensures.makes

pub returns-in-Negation-clause-makes : goal.returns-in-Negation-clause-makes
returns-in-Negation-clause-makes c =
    IfOk-weaker c.single.result _ _ (λ k m. looks_as c.args.operation Negation c.args.pen.now c.single.new.pen c.args.x c.args.y k _ c.args.table.now c.in-Negation.is
    (negation_looks c.args.pen.now c.single.new.pen c.args.x c.args.y k c.args.table.now c.requires.first c.requires.second m)) c.single.ensures.makes
