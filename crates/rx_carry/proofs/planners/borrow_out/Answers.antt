use Rattle.std.proofs.Common.{ℕ, List, [], ◌∷◌, ◌*◌, ◌^◌, length, arith}
use Rattle.std.proofs.lemmas.Nat.{pow_pos}
use Rattle.rx_plan.specs.Planned.{EachOf}
use Rattle.rx_carry.specs.Carries.{joint, flipped}
use Rattle.std.proofs.Common.{false}
use Rattle.rx_costs.specs.Table.{compare_jobs, compare_depth}
use Rattle.rx_plan.specs.Values.{number_held}
use Rattle.rx_plan.proofs.Planned.{planned_same}
use Rattle.rx_plan.proofs.Given.{bit_given}
use Rattle.rx_carry.specs.declared.operation.Operation.TheVariants.{Difference}
use Rattle.rx_carry.specs.Carries.{is_less, passed}
use Rattle.rx_carry.proofs.Summed.{less_out}
use Rattle.rx_carry.proofs.planners.borrow_out.Goals as goal

pub returns-clause-gives : goal.returns-clause-gives
returns-clause-gives c =
    let p = c.args.pen.now in
    let n : ℕ = length c.args.a.now in
    let cs : List ℕ = c.in_ok-cell.cell ∷ [] in
    let bit : List ℕ → ℕ = λ (xs : List ℕ). is_less (number_held p c.args.a.now xs) (number_held p c.args.b.now xs) in
    bit_given p c.passed_out.new.pen c.args.out.now.items c.push.new.self.items cs (compare_jobs n) (compare_depth n) (EachOf c.args.a.now c.args.b.now) bit c.in_ok-push.ensures.items
    (planned_same p c.passed_out.new.pen cs (λ _. 1) (λ _. 1) 1 (compare_jobs n) (compare_depth n) (EachOf c.args.a.now c.args.b.now)
    (λ xs _. flipped false (passed Difference (2 ^ (p.space * n)) (joint Difference (2 ^ (p.space * n)) (number_held p c.args.a.now xs) (number_held p c.args.b.now xs) 0)))
    (λ xs _. bit xs) (λ i q. omega arith)
    (λ xs w i q. less_out (2 ^ (p.space * n)) (number_held p c.args.a.now xs) (number_held p c.args.b.now xs) (pow_pos (p.space * n))) c.in_ok-cell.ensures.planned)
