use Rattle.std.proofs.Common.{true, false, ◌*◌, ℕ, List, [], ◌∷◌, length, arith}
use Rattle.rx_plan.specs.Values.{number_held}
use Rattle.rx_plan.specs.Planned.{EachOf}
use Rattle.rx_plan.proofs.Given.{bit_given}
use Rattle.rx_plan.proofs.Planned.{planned_same}
use Rattle.rx_costs.specs.Table.{compare_jobs, compare_depth}
use Rattle.rx_carry.specs.Carries.{flipped, is_less}
use Rattle.rx_cmp.specs.Order.{is_at_most, ranked}
use Rattle.rx_cmp.proofs.Ordered.{not_less}
use Rattle.rx_cmp.proofs.SignedOut.{turned_over}
use Rattle.rx_cmp.proofs.order.le.Goals as goal

pub returns-clause-gives : goal.returns-clause-gives
returns-clause-gives c =
    let p = c.args.pen.now in
    let a : List ℕ = c.args.a.now in
    let b : List ℕ = c.args.b.now in
    let n : ℕ = length a in
    let bits : ℕ = p.space * n in
    let new = c.below.new.pen in
    let cs : List ℕ = c.in_ok-cell.cell ∷ [] in
    let bit : List ℕ → ℕ = λ (xs : List ℕ). is_at_most (number_held p a xs) (number_held p b xs) in
    bit_given p new c.args.out.now.items c.push.new.self.items cs (compare_jobs n) (compare_depth n) (EachOf a b) bit c.in_ok-push.ensures.items
    (planned_same p new cs (λ _. 1) (λ _. 1) 1 (compare_jobs n) (compare_depth n) (EachOf a b)
    (λ xs _. flipped true (is_less (ranked false (p.space * length b) (number_held p b xs)) (ranked false (p.space * length b) (number_held p a xs))))
    (λ xs _. bit xs) (λ i q. omega arith)
    (λ xs w i q. not_less (number_held p a xs) (number_held p b xs))
    (turned_over p new cs a b (λ xs _. flipped true (is_less (ranked false (p.space * length b) (number_held p b xs)) (ranked false (p.space * length b) (number_held p a xs)))) c.requires.same c.in_ok-cell.ensures.planned))
