use Rattle.std.proofs.Common.{◌/◌, ◌%◌, ◌^◌, ◌∙◌, ap, arith}
use Rattle.std.proofs.lemmas.Result.{IfOk-weaker}
use Rattle.rx_plan.proofs.Held.{table_at}
use Rattle.rx_carry.specs.Carries.{flipped, is_less}
use Rattle.rx_cmp.specs.Order.{turned}
use Rattle.rx_cmp.proofs.SignedOut.{less_table-is, one_signed}
use Rattle.rx_cmp.proofs.order.signed_one.Goals as goal

pub pair-requires-clause-table : goal.pair-requires-clause-table
pair-requires-clause-table c =
    less_table-is c.args.invert c.args.pen.now.space c.deref.result.now (omega arith)
    (table_at (λ s i. flipped c.args.invert (is_less (turned s (i / 2 ^ s)) (turned s (i % 2 ^ s)))) c.space-space.result c.args.pen.now.space c.in_ok-table.table.items c.deref.result.now c.space-space.ensures.value c.deref.ensures.value c.in_ok-table.ensures)

pub returns-clause-planned : goal.returns-clause-planned
returns-clause-planned c =
    let p = c.args.pen.now in
    let h = table_at (λ s i. flipped c.args.invert (is_less (turned s (i / 2 ^ s)) (turned s (i % 2 ^ s)))) c.space-space.result p.space c.in_ok-table.table.items c.deref.result.now c.space-space.ensures.value c.deref.ensures.value c.in_ok-table.ensures in
    IfOk-weaker c.pair.result _ _ (λ k m.
    one_signed p c.pair.new.pen c.args.a.now c.args.b.now c.deref.result.now k c.unit_of.result c.args.invert (omega arith) c.space-space.ensures.bounded (c.unit_of.ensures.value ∙ ap (λ s. 2 ^ s) c.space-space.ensures.value)
    c.requires.one c.requires.same c.requires.first c.requires.second h m) c.pair.ensures.makes
