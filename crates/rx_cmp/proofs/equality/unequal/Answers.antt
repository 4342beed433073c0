use Rattle.std.proofs.lemmas.Result.{IfOk-weaker}
use Rattle.rx_cmp.proofs.Equal.{one_planned}
use Rattle.rx_cmp.proofs.equality.unequal.Goals as goal

pub returns-then-a-eq1-clause-planned : goal.returns-then-a-eq1-clause-planned
returns-then-a-eq1-clause-planned c =
    IfOk-weaker c.leaves.result _ _ (λ k m. one_planned c.args.pen.now c.leaves.new.pen k.items c.args.a.now c.args.b.now c.args.invert c.space-space.ensures.bounded c.if-a-eq1.true c.requires.same c.requires.first c.requires.second m) c.leaves.ensures.planned

pub returns-in_ok-vec-clause-planned : goal.returns-in_ok-vec-clause-planned
returns-in_ok-vec-clause-planned c = rw c.in_ok-vec.ensures.items c.in_ok-cell.ensures.planned
