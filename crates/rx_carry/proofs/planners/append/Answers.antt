use Rattle.std.proofs.Common.{ℕ, List, ◌++◌, ◌*◌, ◌^◌, length, ◌∙◌, ap, arith}
use Rattle.rx_plan.specs.Planned.{EachOf}
use Rattle.rx_costs.specs.Table.{add_jobs, add_depth}
use Rattle.rx_plan.specs.Values.{number_held}
use Rattle.rx_plan.proofs.Given.{number_given, number_operands}
use Rattle.rx_carry.specs.Carries.{whole}
use Rattle.rx_carry.specs.Prefix.{sum_jobs}
use Rattle.rx_carry.proofs.Summed.{sum_jobs-within}
use Rattle.rx_carry.proofs.planners.append.Goals as goal

pub returns-clause-gives : goal.returns-clause-gives
returns-clause-gives c =
    let p = c.args.pen.now in
    let n : ℕ = length c.args.a.now in
    let before : List ℕ = c.args.out.now.items in
    let number : List ℕ → ℕ = λ xs. whole c.args.operation (2 ^ (p.space * n)) (number_held p c.args.a.now xs) (number_held p c.args.b.now xs) in
    number_operands p c.cells_of.new.pen before c.extend_from_slice.new.self.items n (sum_jobs n) (add_jobs n) (add_depth n) (add_depth n) (EachOf c.args.a.now c.args.b.now) (EachOf c.args.a.now c.args.b.now) number
    (sum_jobs-within n c.requires.some) (omega arith) (λ d o. o)
    (number_given p c.cells_of.new.pen before c.extend_from_slice.new.self.items c.in_ok-cells.cells.items n (sum_jobs n) (add_depth n) (EachOf c.args.a.now c.args.b.now) number
    (c.in_ok-extend_from_slice.ensures.items ∙ ap (λ cs. before ++ cs) c.deref.ensures.value) c.in_ok-cells.ensures.planned)
