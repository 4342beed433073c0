use Rattle.std.proofs.Common.{true, ◌<◌, ◌≤◌, ◌*◌, ◌^◌, ℕ, List, [], ◌∷◌, length, ◌∙◌, ap, arith, subst}
use Rattle.rx_residue.specs.Residues.{signed}
use Rattle.rx_plan.specs.Values.{number_held}
use Rattle.rx_plan.specs.Planned.{EachOf}
use Rattle.rx_plan.proofs.Given.{bit_given}
use Rattle.rx_plan.proofs.Held.{held_small}
use Rattle.rx_plan.proofs.Planned.{planned_same}
use Rattle.rx_costs.specs.Table.{compare_jobs, compare_depth}
use Rattle.rx_carry.specs.Carries.{flipped, is_less}
use Rattle.rx_cmp.specs.Order.{is_at_most_signed, ranked}
use Rattle.rx_cmp.proofs.Ordered.{not_below, signed_order}
use Rattle.rx_cmp.proofs.SignedOut.{turned_over, bits_some}
use Rattle.rx_cmp.proofs.order.sle.Goals as goal

pub returns-clause-gives : goal.returns-clause-gives
returns-clause-gives c =
    let p = c.args.pen.now in
    let a : List ℕ = c.args.a.now in
    let b : List ℕ = c.args.b.now in
    let n : ℕ = length a in
    let bits : ℕ = p.space * n in
    let some : 1 ≤ bits = bits_some p.space n (omega arith) c.requires.some in
    let new = c.below.new.pen in
    let cs : List ℕ = c.in_ok-cell.cell ∷ [] in
    let bit : List ℕ → ℕ = λ (xs : List ℕ). is_at_most_signed (signed bits (number_held p a xs)) (signed bits (number_held p b xs)) in
    bit_given p new c.args.out.now.items c.push.new.self.items cs (compare_jobs n) (compare_depth n) (EachOf a b) bit c.in_ok-push.ensures.items
    (planned_same p new cs (λ _. 1) (λ _. 1) 1 (compare_jobs n) (compare_depth n) (EachOf a b)
    (λ xs _. flipped true (is_less (ranked true (p.space * length b) (number_held p b xs)) (ranked true (p.space * length b) (number_held p a xs))))
    (λ xs _. bit xs) (λ i q. omega arith)
    (λ xs w i q. ap (λ k. flipped true (is_less (ranked true (p.space * k) (number_held p b xs)) (ranked true (p.space * k) (number_held p a xs)))) c.requires.same ∙ ap (flipped true) (signed_order bits (number_held p b xs) (number_held p a xs) some (subst (λ (k : ℕ). number_held p b xs < 2 ^ (p.space * k)) c.requires.same (held_small p b c.space-space.ensures.bounded c.requires.second xs w)) (held_small p a c.space-space.ensures.bounded c.requires.first xs w)) ∙ not_below (signed bits (number_held p a xs)) (signed bits (number_held p b xs)))
    (turned_over p new cs a b (λ xs _. flipped true (is_less (ranked true (p.space * length b) (number_held p b xs)) (ranked true (p.space * length b) (number_held p a xs)))) c.requires.same c.in_ok-cell.ensures.planned))
