use Rattle.std.proofs.Common.{◌≡◌, ◌++◌, ◌∙◌, ap}
use Rattle.rx_plan.proofs.Given.{number_given}
use Rattle.rx_bits.proofs.constants.constant.Goals as goal

pub returns-clause-gives : goal.returns-clause-gives
returns-clause-gives c =
    let r = c.args in
    let p = r.pen.now in
    let e : c.extend_from_slice.new.self.items ≡ r.out.now.items ++ c.in_ok-cells.cells.items =
    c.in_ok-extend_from_slice.ensures.items ∙ ap (λ cs. r.out.now.items ++ cs) c.deref.ensures.value in
    number_given p c.constant_cells.new.pen r.out.now.items c.extend_from_slice.new.self.items c.in_ok-cells.cells.items r.blocks r.blocks 1 (λ _. Unit {0})
    (λ xs. r.number) e c.in_ok-cells.ensures.planned
