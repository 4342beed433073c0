use Rattle.std.proofs.Common.{pos, get_or, refl, ◌∙◌, arith, w16}
use Rattle.std.proofs.lemmas.Int.{to_z-of_z}
use Rattle.rx_points.proofs.KeyPoints.{each_put, place_kept}
use Rattle.rx_points.proofs.key.put_limbs.Goals as goal

pub loop-limb-init : goal.loop-limb-init
loop-limb-init c = record { written = λ k p. absurd (omega arith); left = λ k u p q. refl }

pub loop-limb-preserved : goal.loop-limb-preserved
loop-limb-preserved c = record {
  written = each_put c.args.n c.loop-limb.limb c.args.place 6 c.loop-limb.limbs _ (λ k. get_or c.args.six k (pos 0)) (omega arith) (omega arith) (omega arith)
      c.loop-limb.invariant.written (to_z-of_z w16 (get_or c.args.six c.loop-limb.limb (pos 0)) (c.requires.fits c.loop-limb.limb (omega arith)));
  left = λ k u p q. place_kept c.args.n c.loop-limb.limb k c.args.place u c.loop-limb.limbs _ (omega arith) q ∙ c.loop-limb.invariant.left k u p q;
}

pub returns-clause-written : goal.returns-clause-written
returns-clause-written c = λ l p. c.loop-limb.invariant.written l (omega arith)

pub returns-clause-left : goal.returns-clause-left
returns-clause-left c = λ l u p q. c.loop-limb.invariant.left l u p q
