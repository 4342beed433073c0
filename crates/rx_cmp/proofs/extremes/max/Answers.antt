use Rattle.std.proofs.Common.{false, max, ◌≡◌, ◌≤◌, ◌*◌, ◌++◌, ℕ, List, length, ◌∙◌, ap, arith}
use Rattle.rx_plan.specs.Values.{number_held}
use Rattle.rx_plan.specs.Planned.{EachOf}
use Rattle.rx_plan.proofs.Given.{number_given}
use Rattle.rx_plan.proofs.Held.{digits_said}
use Rattle.rx_costs.specs.Table.{extreme_jobs, extreme_depth}
use Rattle.rx_carry.specs.Carries.{is_less}
use Rattle.rx_cmp.specs.Selection.{chosen}
use Rattle.rx_cmp.specs.Order.{ranked}
use Rattle.rx_cmp.proofs.SignedOut.{bits_some}
use Rattle.rx_cmp.proofs.Outermost.{chosen_max}
use Rattle.rx_cmp.proofs.extremes.max.Goals as goal

pub returns-clause-gives : goal.returns-clause-gives
returns-clause-gives c =
    let r = c.args in
    let p = r.pen.now in
    let a : List ℕ = r.a.now in
    let b : List ℕ = r.b.now in
    let n : ℕ = length a in
    let bits : ℕ = p.space * n in
    let some : 1 ≤ bits = bits_some p.space n (omega arith) c.requires.some in
    let new = c.greater.new.pen in
    let cells : List ℕ = c.in_ok-cells.cells.items in
    let e : c.extend_from_slice.new.self.items ≡ r.out.now.items ++ cells = c.in_ok-extend_from_slice.ensures.items ∙ ap (λ cs. r.out.now.items ++ cs) c.deref.ensures.value in
    let whole : List ℕ → ℕ = λ (xs : List ℕ). max (number_held p a xs) (number_held p b xs) in
    number_given p new r.out.now.items c.extend_from_slice.new.self.items cells n (extreme_jobs n) (extreme_depth n) (EachOf a b) whole e
    (digits_said p new cells n (extreme_jobs n) (extreme_depth n) (EachOf a b) (λ xs. chosen (is_less (ranked false bits (number_held p a xs)) (ranked false bits (number_held p b xs))) (number_held p b xs) (number_held p a xs)) whole
    (λ xs w. chosen_max (number_held p a xs) (number_held p b xs)) c.in_ok-cells.ensures.planned)
