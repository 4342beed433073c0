use Rattle.std.proofs.Common.{ℕ, List, ◌++◌, ◌*◌, ◌/◌, ◌^◌, length, ◌∙◌, ap}
use Rattle.rx_costs.specs.Logs.{log_up}
use Rattle.rx_costs.specs.Table.{amount_shift_jobs, amount_shift_depth}
use Rattle.rx_plan.specs.Values.{number_held}
use Rattle.rx_plan.specs.Planned.{EachOf}
use Rattle.rx_plan.proofs.Given.{number_given}
use Rattle.rx_shift.proofs.shifts.shlv.Goals as goal

pub returns-clause-gives : goal.returns-clause-gives
returns-clause-gives c =
    let p = c.args.pen.now in
    let a : List ℕ = c.args.a.now in
    let n : ℕ = length a in
    let k : ℕ = log_up 2 (p.space * n) in
    let before : List ℕ = c.args.out.now.items in
    number_given p c.shifted.new.pen before c.extend_from_slice.new.self.items c.in_ok-cells.cells.items n (amount_shift_jobs k n) (amount_shift_depth k) (EachOf a c.args.amount.now)
    (λ xs. number_held p a xs * 2 ^ number_held p c.args.amount.now xs)
    (c.in_ok-extend_from_slice.ensures.items ∙ ap (λ cs. before ++ cs) c.deref.ensures.value) c.in_ok-cells.ensures.planned
