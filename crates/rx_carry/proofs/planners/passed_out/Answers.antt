use Rattle.std.proofs.Common.{ℕ, List, [], ◌∷◌, length, arith}
use Rattle.std.proofs.lemmas.Result.{IfOk-weaker}
use Rattle.rx_plan.specs.Planned.{EachOf}
use Rattle.rx_costs.specs.Table.{compare_jobs, compare_depth}
use Rattle.rx_plan.proofs.Planned.{planned_weaken}
use Rattle.rx_carry.proofs.planners.passed_out.Goals as goal

pub returns-then-a-eq1-clause-planned : goal.returns-then-a-eq1-clause-planned
returns-then-a-eq1-clause-planned c =
    let a : List ℕ = c.args.a.now in
    let n : ℕ = length a in
    IfOk-weaker c.passed_one.result _ _ (λ k m. planned_weaken c.args.pen.now c.passed_one.new.pen (k ∷ []) (λ _. 1) 1 1 (compare_jobs n) 1 (compare_depth n) (EachOf a c.args.b.now) (EachOf a c.args.b.now) _
    (omega arith) (omega arith) (λ d o. o) m) c.passed_one.ensures.planned
