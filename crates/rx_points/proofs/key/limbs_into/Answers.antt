use Rattle.std.proofs.Common.{ℕ, ◌-◌, ◌%◌, ◌^◌, length, get_or, subst, sym, arith, w16, FitsSigned}
use Rattle.rx_points.proofs.KeyPoints.{limbs_more, limb_fits}
use Rattle.rx_points.proofs.key.limbs_into.Goals as goal

pub put_limbs-requires-clause-fits : goal.put_limbs-requires-clause-fits
put_limbs-requires-clause-fits c = λ l p.
    let v : ℕ = get_or c.args.values.now (length c.args.values.now - 1 - c.loop-place.place) 0 % 2 ^ 69 in
    subst (FitsSigned w16) (sym (c.limbs_of-six.ensures l p)) (limb_fits l v p)

pub loop-place-preserved : goal.loop-place-preserved
loop-place-preserved c = record {
  written = limbs_more (length c.args.values.now) c.loop-place.place (length c.args.values.now - 1 - c.loop-place.place) c.loop-place.limbs c.put_limbs.new.limbs
      (λ u. get_or c.args.values.now u 0 % 2 ^ 69) c.limbs_of-six.result (omega arith) (omega arith) c.loop-place.invariant.written
      c.put_limbs.ensures.written c.put_limbs.ensures.left c.limbs_of-six.ensures;
}

pub returns : goal.returns
returns c = record { each = λ l u p q. c.loop-place.invariant.written l u p (omega arith) }
