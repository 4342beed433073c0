use Rattle.std.proofs.Common.{arith}
use Rattle.std.proofs.lemmas.Result.{IfOk-weaker}
use Rattle.rx_plan.proofs.Held.{table_at}
use Rattle.rx_bits.proofs.OneCell.{fixed_gives}
use Rattle.rx_bits.proofs.constants.new_cell.Goals as goal

pub returns-clause-gives : goal.returns-clause-gives
returns-clause-gives c =
    let p = c.args.pen.now in
    let h = table_at (λ _ _. c.args.digit) c.space-space.result p.space c.in_ok-table.table.items c.deref.result.now c.space-space.ensures.value c.deref.ensures.value c.in_ok-table.ensures in
    IfOk-weaker c.fixed.result _ _ (λ k m. fixed_gives p c.fixed.new.pen k (λ _. c.args.digit) c.deref.result.now h (λ j. omega arith) m) c.fixed.ensures.makes

pub returns-clause-shallow : goal.returns-clause-shallow
returns-clause-shallow c = IfOk-weaker c.fixed.result _ _ (λ k m. m.depth_in 0 tt) c.fixed.ensures.makes
