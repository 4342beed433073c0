use Rattle.std.proofs.Common.{ℕ, List, length}
use Rattle.rx_costs.specs.Table.{select_jobs, select_depth}
use Rattle.rx_net.specs.Cells.{value}
use Rattle.rx_plan.specs.Values.{number_held}
use Rattle.rx_plan.specs.Planned.{Each}
use Rattle.rx_cmp.specs.Selection.{chosen}
use Rattle.rx_div.proofs.Stepped.{fresh_number}
use Rattle.rx_div.proofs.steps.selected.Goals as goal

pub returns-clause-planned : goal.returns-clause-planned
returns-clause-planned c =
    let p = c.args.pen.now in
    let a : List ℕ = c.args.a.now in
    let b : List ℕ = c.args.b.now in
    let n : ℕ = length a in
    fresh_number p c.select.new.pen c.new-cells.result.items c.select.new.out.items n (select_jobs n) select_depth (λ (P : ℕ → Type 0). P c.args.bit × Each a P × Each b P)
    (λ xs. chosen (value p xs c.args.bit) (number_held p a xs) (number_held p b xs))
    c.new-cells.ensures.items c.in_ok-select.ensures.gives
