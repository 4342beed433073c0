use Rattle.std.proofs.lemmas.Result.{IfOk-weaker}
use Rattle.rx_plan.proofs.PerBlock.{table_here}
use Rattle.rx_shift.specs.Amount.{digit_above}
use Rattle.rx_shift.proofs.AmountBits.{above_planned}
use Rattle.rx_shift.proofs.amount.above.Goals as goal

pub returns-in_ok-table-clause-planned : goal.returns-in_ok-table-clause-planned
returns-in_ok-table-clause-planned c =
    let p = c.args.pen.now in
    let h = table_here (λ u. digit_above u c.args.bits) c.space-space.result p.space c.in_ok-table.table.items c.deref.result.now c.space-space.ensures.value c.deref.ensures.value c.in_ok-table.ensures in
    IfOk-weaker c.single.result _ _ (λ k m. above_planned p c.single.new.pen c.args.block k c.args.bits c.deref.result.now c.space-space.ensures.bounded c.requires.block h m) c.single.ensures.makes
