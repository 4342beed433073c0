use Rattle.std.proofs.Common.{◌+◌, ◌-◌, ◌*◌, ◌^◌, ℕ, List, length}
use Rattle.rx_costs.specs.Table.{add_jobs, add_depth}
use Rattle.rx_plan.specs.Values.{number_held}
use Rattle.rx_plan.specs.Planned.{EachOf}
use Rattle.rx_div.proofs.Stepped.{fresh_number}
use Rattle.rx_div.proofs.steps.difference.Goals as goal

pub returns-clause-planned : goal.returns-clause-planned
returns-clause-planned c =
    let p = c.args.pen.now in
    let a : List ℕ = c.args.a.now in
    let b : List ℕ = c.args.b.now in
    let n : ℕ = length a in
    fresh_number p c.sub.new.pen c.new-cells.result.items c.sub.new.out.items n (add_jobs n) (add_depth n) (EachOf a b) (λ xs. number_held p a xs + 2 ^ (p.space * n) - number_held p b xs)
    c.new-cells.ensures.items c.in_ok-sub.ensures.gives
