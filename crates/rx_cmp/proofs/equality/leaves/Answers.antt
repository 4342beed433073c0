use Rattle.std.proofs.Common.{◌^◌, ◌∙◌, ap}
use Rattle.std.proofs.lemmas.Result.{IfOk-weaker}
use Rattle.rx_plan.proofs.PerBlock.{table_here}
use Rattle.rx_carry.specs.Carries.{flipped}
use Rattle.rx_cmp.specs.Equality.{digits_differ}
use Rattle.rx_cmp.proofs.Equal.{leaves_planned}
use Rattle.rx_cmp.proofs.equality.leaves.Goals as goal

pub returns-clause-planned : goal.returns-clause-planned
returns-clause-planned c =
    let p = c.args.pen.now in
    let h = table_here (λ u i. flipped c.args.invert (digits_differ u i)) c.space-space.result p.space c.in_ok-table.table.items c.deref.result.now c.space-space.ensures.value c.deref.ensures.value c.in_ok-table.ensures in
    IfOk-weaker c.blockwise.result _ _ (λ cells q.
    leaves_planned p c.blockwise.new.pen cells.items c.args.a.now c.args.b.now c.deref.result.now c.unit_of.result c.args.invert (c.unit_of.ensures.value ∙ ap (λ s. 2 ^ s) c.space-space.ensures.value)
    c.space-space.ensures.bounded c.requires.first c.requires.second c.requires.same h q) c.blockwise.ensures.planned
