use Rattle.std.proofs.Common.{◌-◌, ℕ, ◌∙◌, ap, arith}
use Rattle.std.proofs.lemmas.Result.{IfOk-weaker}
use Rattle.rx_params.specs.Kinds.{greatest}
use Rattle.rx_plan.proofs.Held.{table_at}
use Rattle.rx_bits.proofs.TurnedBlocks.{turned_planned}
use Rattle.rx_bits.proofs.inverse.turned.Goals as goal

pub returns-clause-planned : goal.returns-clause-planned
returns-clause-planned c =
    let p = c.args.pen.now in
    let most : ℕ = c.greatest-most.result in
    let h = table_at (λ _ i. most - i) c.space-space.result p.space c.in_ok-table.table.items c.deref.result.now c.space-space.ensures.value c.deref.ensures.value c.in_ok-table.ensures in
    IfOk-weaker c.each.result _ _ (λ cells q.
    turned_planned c.args.kind p c.each.new.pen cells.items c.args.a.now c.deref.result.now most (omega arith) c.space-space.ensures.bounded c.requires.count
    (c.greatest-most.ensures ∙ ap (greatest c.args.kind) c.space-space.ensures.value) c.requires.cells h q) c.each.ensures.planned
