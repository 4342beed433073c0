use Rattle.std.proofs.Common.{ℕ, List, ◌++◌, ◌*◌, length, ◌∙◌, ap}
use Rattle.rx_costs.specs.Table.{mul_jobs, mul_depth}
use Rattle.rx_plan.specs.Values.{number_held}
use Rattle.rx_plan.specs.Planned.{EachOf}
use Rattle.rx_plan.proofs.Given.{number_given}
use Rattle.rx_mul.proofs.planner.mul.Goals as goal

pub returns-clause-gives : goal.returns-clause-gives
returns-clause-gives c =
    let p = c.args.pen.now in
    let n : ℕ = length c.args.a.now in
    let before : List ℕ = c.args.out.now.items in
    number_given p c.mul_cells.new.pen before c.extend_from_slice.new.self.items c.in_ok-cells.cells.items n (mul_jobs p.space n) (mul_depth p.space n) (EachOf c.args.a.now c.args.b.now)
    (λ xs. number_held p c.args.a.now xs * number_held p c.args.b.now xs)
    (c.in_ok-extend_from_slice.ensures.items ∙ ap (λ cs. before ++ cs) c.deref.ensures.value) c.in_ok-cells.ensures.planned
