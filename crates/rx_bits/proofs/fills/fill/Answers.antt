use Rattle.std.proofs.lemmas.Result.{IfOk-weaker}
use Rattle.rx_plan.proofs.Held.{table_at}
use Rattle.rx_bits.specs.Signs.{fill_digit}
use Rattle.rx_bits.proofs.OneCell.{single_gives, fixed_gives}
use Rattle.rx_bits.proofs.SignLaws.{fill_le}
use Rattle.rx_bits.proofs.fills.fill.Goals as goal

pub returns-then-signed-clause-gives : goal.returns-then-signed-clause-gives
returns-then-signed-clause-gives c =
    let p = c.args.pen.now in
    let h = table_at (fill_digit c.args.signed) c.space-space.result p.space c.in_ok-table.table.items c.deref.result.now c.space-space.ensures.value c.deref.ensures.value c.in_ok-table.ensures in
    IfOk-weaker c.single.result _ _ (λ k m. single_gives p c.single.new.pen c.args.top k (fill_digit c.args.signed p.space) c.deref.result.now c.requires.top h (fill_le c.args.signed p.space) m) c.single.ensures.makes

pub returns-clause-gives : goal.returns-clause-gives
returns-clause-gives c =
    let p = c.args.pen.now in
    let h = table_at (fill_digit c.args.signed) c.space-space.result p.space c.in_ok-table.table.items c.deref-else-signed.result.now c.space-space.ensures.value c.deref-else-signed.ensures.value c.in_ok-table.ensures in
    IfOk-weaker c.fixed.result _ _ (λ k m. fixed_gives p c.fixed.new.pen k (fill_digit c.args.signed p.space) c.deref-else-signed.result.now h (fill_le c.args.signed p.space) m) c.fixed.ensures.makes

pub returns-clause-deep : goal.returns-clause-deep
returns-clause-deep c = IfOk-weaker c.fixed.result _ _ (λ k m. λ d l. m.depth_in d tt) c.fixed.ensures.makes
