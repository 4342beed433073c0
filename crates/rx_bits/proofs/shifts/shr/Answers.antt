use Rattle.std.proofs.Common.{◌≡◌, ◌/◌, ◌^◌, ◌++◌, ℕ, List, length, ◌∙◌, ap}
use Rattle.rx_plan.specs.Values.{number_held}
use Rattle.rx_plan.specs.Planned.{Each}
use Rattle.rx_plan.proofs.Given.{number_given}
use Rattle.rx_bits.proofs.shifts.shr.Goals as goal

pub returns-clause-gives : goal.returns-clause-gives
returns-clause-gives c =
    let r = c.args in
    let p = r.pen.now in
    let a : List ℕ = r.a.now in
    let e : c.extend_from_slice.new.self.items ≡ r.out.now.items ++ c.in_ok-cells.cells.items =
    c.in_ok-extend_from_slice.ensures.items ∙ ap (λ cs. r.out.now.items ++ cs) c.deref.ensures.value in
    number_given p c.moved_down.new.pen r.out.now.items c.extend_from_slice.new.self.items c.in_ok-cells.cells.items (length a) (length a) 1 (Each a)
    (λ xs. number_held p a xs / 2 ^ r.amount) e c.in_ok-cells.ensures.planned
