use Rattle.std.proofs.Common.{ℕ, List, ◌-◌, ◌*◌, ◌^◌, length, arith}
use Rattle.std.proofs.lemmas.Result.{IfOk-weaker}
use Rattle.rx_plan.specs.Planned.{Each, EachOf}
use Rattle.rx_costs.specs.Table.{add_jobs, add_depth}
use Rattle.rx_plan.specs.Values.{number_held}
use Rattle.rx_plan.proofs.Given.{number_operands}
use Rattle.rx_carry.proofs.planners.neg.Goals as goal

pub returns-clause-gives : goal.returns-clause-gives
returns-clause-gives c =
    let p = c.args.pen.now in
    let a : List ℕ = c.args.a.now in
    let n : ℕ = length a in
    IfOk-weaker c.append.result _ _ (λ u g. number_operands p c.append.new.pen c.args.out.now.items c.append.new.out.items n (add_jobs n) (add_jobs n) (add_depth n) (add_depth n) (EachOf a a) (Each a)
    (λ xs. 2 ^ (p.space * n) - number_held p a xs) (omega arith) (omega arith) (λ d o. (o, o)) g) c.append.ensures.gives
