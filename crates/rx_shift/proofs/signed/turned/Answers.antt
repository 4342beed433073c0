use Rattle.std.proofs.Common.{◌^◌, ◌∙◌, ap}
use Rattle.std.proofs.lemmas.Result.{IfOk-weaker}
use Rattle.rx_plan.proofs.Held.{table_at}
use Rattle.rx_shift.specs.Signed.{turned_entry}
use Rattle.rx_shift.proofs.SignBlocks.{turned_planned}
use Rattle.rx_shift.proofs.signed.turned.Goals as goal

pub returns-clause-planned : goal.returns-clause-planned
returns-clause-planned c =
    let p = c.args.pen.now in
    let h = table_at turned_entry c.space-space.result p.space c.in_ok-table.table.items c.deref.result.now c.space-space.ensures.value c.deref.ensures.value c.in_ok-table.ensures in
    IfOk-weaker c.against.result _ _ (λ cells q.
    turned_planned p c.against.new.pen cells.items c.args.blocks.now c.deref.result.now c.args.top c.unit_of.result c.space-space.ensures.bounded
    (c.unit_of.ensures.value ∙ ap (λ s. 2 ^ s) c.space-space.ensures.value) c.requires.top c.requires.blocks h q) c.against.ensures.planned
