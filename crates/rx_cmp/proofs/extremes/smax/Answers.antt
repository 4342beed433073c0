use Rattle.std.proofs.Common.{true, ◌≡◌, ◌<◌, ◌≤◌, ◌*◌, ◌^◌, ◌++◌, ℕ, List, length, ◌∙◌, ap, arith, subst}
use Rattle.std.specs.Int.{int_max}
use Rattle.rx_residue.specs.Residues.{residue, signed}
use Rattle.rx_plan.specs.Values.{number_held}
use Rattle.rx_plan.specs.Planned.{EachOf}
use Rattle.rx_plan.proofs.Given.{number_given}
use Rattle.rx_plan.proofs.Held.{held_small, digits_said}
use Rattle.rx_costs.specs.Table.{extreme_jobs, extreme_depth}
use Rattle.rx_carry.specs.Carries.{is_less}
use Rattle.rx_cmp.specs.Selection.{chosen}
use Rattle.rx_cmp.specs.Order.{ranked}
use Rattle.rx_cmp.proofs.SignedOut.{bits_some}
use Rattle.rx_cmp.proofs.Outermost.{chosen_smax}
use Rattle.rx_cmp.proofs.extremes.smax.Goals as goal

pub returns-clause-gives : goal.returns-clause-gives
returns-clause-gives c =
    let r = c.args in
    let p = r.pen.now in
    let a : List ℕ = r.a.now in
    let b : List ℕ = r.b.now in
    let n : ℕ = length a in
    let bits : ℕ = p.space * n in
    let some : 1 ≤ bits = bits_some p.space n (omega arith) c.requires.some in
    let new = c.greater.new.pen in
    let cells : List ℕ = c.in_ok-cells.cells.items in
    let e : c.extend_from_slice.new.self.items ≡ r.out.now.items ++ cells = c.in_ok-extend_from_slice.ensures.items ∙ ap (λ cs. r.out.now.items ++ cs) c.deref.ensures.value in
    let whole : List ℕ → ℕ = λ (xs : List ℕ). residue bits (int_max (signed bits (number_held p a xs)) (signed bits (number_held p b xs))) in
    number_given p new r.out.now.items c.extend_from_slice.new.self.items cells n (extreme_jobs n) (extreme_depth n) (EachOf a b) whole e
    (digits_said p new cells n (extreme_jobs n) (extreme_depth n) (EachOf a b) (λ xs. chosen (is_less (ranked true bits (number_held p a xs)) (ranked true bits (number_held p b xs))) (number_held p b xs) (number_held p a xs)) whole
    (λ xs w. chosen_smax bits (number_held p a xs) (number_held p b xs) some (held_small p a c.space-space.ensures.bounded c.requires.first xs w) (subst (λ (k : ℕ). number_held p b xs < 2 ^ (p.space * k)) c.requires.same (held_small p b c.space-space.ensures.bounded c.requires.second xs w))) c.in_ok-cells.ensures.planned)
