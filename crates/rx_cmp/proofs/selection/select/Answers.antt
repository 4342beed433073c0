use Rattle.std.proofs.Common.{◌≡◌, ◌*◌, ◌++◌, ℕ, List, length, ◌∙◌, ap}
use Rattle.rx_net.specs.Cells.{value}
use Rattle.rx_plan.specs.Values.{number_held}
use Rattle.rx_plan.specs.Planned.{Each}
use Rattle.rx_plan.proofs.Given.{number_given}
use Rattle.rx_cmp.specs.Selection.{chosen}
use Rattle.rx_cmp.proofs.selection.select.Goals as goal

pub returns-clause-gives : goal.returns-clause-gives
returns-clause-gives c =
    let r = c.args in
    let p = r.pen.now in
    let a : List ℕ = r.a.now in
    let b : List ℕ = r.b.now in
    let e : c.extend_from_slice.new.self.items ≡ r.out.now.items ++ c.in_ok-cells.cells.items =
    c.in_ok-extend_from_slice.ensures.items ∙ ap (λ cs. r.out.now.items ++ cs) c.deref.ensures.value in
    number_given p c.selected.new.pen r.out.now.items c.extend_from_slice.new.self.items c.in_ok-cells.cells.items (length a) (3 * length a) 2 (λ (P : ℕ → Type 0). P r.bit × Each a P × Each b P)
    (λ xs. chosen (value p xs r.bit) (number_held p a xs) (number_held p b xs)) e c.in_ok-cells.ensures.planned
