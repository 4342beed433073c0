use Rattle.std.proofs.Common.{◌≡◌, ◌++◌, ℕ, List, length, ◌∙◌, ap}
use Rattle.rx_plan.specs.Values.{number_held}
use Rattle.rx_plan.specs.Planned.{EachOf}
use Rattle.rx_plan.proofs.Given.{bit_given}
use Rattle.rx_costs.specs.Table.{equal_jobs, equal_depth}
use Rattle.rx_cmp.specs.Equality.{differ}
use Rattle.rx_cmp.proofs.equality.ne.Goals as goal

pub returns-clause-gives : goal.returns-clause-gives
returns-clause-gives c =
    let r = c.args in
    let p = r.pen.now in
    let a : List ℕ = r.a.now in
    let b : List ℕ = r.b.now in
    let new = c.unequal.new.pen in
    let cells : List ℕ = c.in_ok-cells.cells.items in
    let e : c.extend_from_slice.new.self.items ≡ r.out.now.items ++ cells = c.in_ok-extend_from_slice.ensures.items ∙ ap (λ cs. r.out.now.items ++ cs) c.deref.ensures.value in
    bit_given p new r.out.now.items c.extend_from_slice.new.self.items cells (equal_jobs (length a)) (equal_depth p.space (length a)) (EachOf a b)
    (λ xs. differ (number_held p a xs) (number_held p b xs)) e
    c.in_ok-cells.ensures.planned
