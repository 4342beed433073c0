use Rattle.std.proofs.Common.{◌*◌, ℕ, List, length, refl, arith}
use Rattle.std.proofs.lemmas.Result.{IfOk-weaker}
use Rattle.rx_plan.specs.Values.{number_held}
use Rattle.rx_carry.specs.Carries.{is_less}
use Rattle.rx_cmp.specs.Order.{ranked}
use Rattle.rx_cmp.proofs.Outermost.{outermost}
use Rattle.rx_cmp.proofs.extremes.lesser.Goals as goal

pub selected-requires-clause-bit : goal.selected-requires-clause-bit
selected-requires-clause-bit c = c.in_ok-bit.ensures.planned.cells_are 0 (omega arith)

pub returns-clause-planned : goal.returns-clause-planned
returns-clause-planned c =
    let p = c.args.pen.now in
    let a : List ℕ = c.args.a.now in
    let b : List ℕ = c.args.b.now in
    let bits : ℕ = p.space * length a in
    IfOk-weaker c.selected.result _ _ (λ cells q.
    outermost p c.below.new.pen c.selected.new.pen cells.items a b a b c.in_ok-bit.bit (λ xs. is_less (ranked c.args.signed bits (number_held p a xs)) (ranked c.args.signed bits (number_held p b xs)))
    c.requires.some c.requires.same c.requires.first c.requires.second refl (λ P o. o)
    c.in_ok-bit.ensures.planned q) c.selected.ensures.planned
