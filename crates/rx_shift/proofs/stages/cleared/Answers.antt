use Rattle.std.proofs.Common.{◌≤◌, ◌^◌, ◌∙◌, ap, arith}
use Rattle.std.proofs.lemmas.Result.{IfOk-weaker}
use Rattle.rx_plan.proofs.PerBlock.{table_here, unit_big}
use Rattle.rx_cmp.specs.Selection.{kept_entry}
use Rattle.rx_cmp.proofs.Chosen.{kept_planned}
use Rattle.rx_shift.proofs.stages.cleared.Goals as goal

pub returns-clause-planned : goal.returns-clause-planned
returns-clause-planned c =
    let p = c.args.pen.now in
    let big : 4 ≤ 2 ^ p.space = unit_big p.space (omega arith) in
    let h = table_here (kept_entry 0) c.space-space.result p.space c.in_ok-table.table.items c.deref.result.now c.space-space.ensures.value c.deref.ensures.value c.in_ok-table.ensures in
    IfOk-weaker c.against.result _ _ (λ cells q.
    kept_planned p c.against.new.pen cells.items c.args.blocks.now c.deref.result.now c.args.flag 0 c.unit_of.result c.space-space.ensures.bounded
    (c.unit_of.ensures.value ∙ ap (λ s. 2 ^ s) c.space-space.ensures.value) c.requires.flag (omega arith) c.requires.blocks h q) c.against.ensures.planned
