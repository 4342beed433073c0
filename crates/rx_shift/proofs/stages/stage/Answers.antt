use Rattle.std.proofs.Common.{◌≡◌, ℕ, List, ◌-◌, ◌%◌, ◌^◌, length, sym, ◌∙◌, ap, subst}
use Rattle.std.proofs.lemmas.Result.{IfOk-weaker}
use Rattle.rx_plan.specs.Planned.{Each, Planned}
use Rattle.rx_plan.specs.Rows.{column_sum}
use Rattle.rx_shift.specs.Shifts.{in_order, stage_jobs}
use Rattle.rx_shift.proofs.Staging.{stage_says, stage_planned}
use Rattle.rx_shift.proofs.stages.stage.Goals as goal

pub returns-clause-planned : goal.returns-clause-planned
returns-clause-planned c =
    let p = c.args.pen.now in
    let mid = c.sources.new.pen in
    let new = c.digit_row.new.pen in
    let d = c.args.direction in
    let a : List ℕ = c.args.blocks.now in
    let n : ℕ = length a in
    let ordered : List ℕ = c.deref.result.now in
    let rows : List ℕ = c.in_ok-rows.rows.items in
    let cells : List ℕ = c.in_ok-cells.cells.items in
    let t : Planned p new (in_order d cells) (λ _. 2 ^ p.space - 1) n (stage_jobs n) 2 (λ P. P c.args.bit × Each a P) (stage_says p d a c.args.bit c.args.distance) =
    stage_planned p mid new d a ordered rows cells c.args.bit c.args.distance (c.deref.ensures.value ∙ c.in_ok-ordered.ensures) c.space-space.ensures.bounded
    c.in_ok-rows.ensures.planned c.in_ok-rows.ensures.sums c.requires.some
    (subst (λ (rows : List ℕ). Planned mid new cells (λ _. 2 ^ mid.space - 1) n n 1 (Each rows) (λ xs k. column_sum mid rows n 3 xs k % 2 ^ mid.space)) c.deref-2.ensures.value c.in_ok-cells.ensures.planned) in
    IfOk-weaker c.in_order-2.result _ _ (λ out e.
    subst (λ (cs : List ℕ). Planned p new cs (λ _. 2 ^ p.space - 1) n (stage_jobs n) 2 (λ P. P c.args.bit × Each a P) (stage_says p d a c.args.bit c.args.distance)) (sym (e ∙ ap (in_order d) c.deref-4.ensures.value)) t) c.in_order-2.ensures
