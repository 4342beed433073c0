use Rattle.rx_ring.specs.Limbs.{limb, without}
use Rattle.rx_points.proofs.SixLimbs.{six_limbs}
use Rattle.rx_points.proofs.limbs.limbs_of.Goals as goal

pub returns : goal.returns
unfolding limb without
returns c = λ l p.
    six_limbs c.args.v c.split-first.result.1 c.split-second.result.1 c.split-third.result.1 c.split-fourth.result.1 c.split-fifth.result.1
    c.split-first.result.0 c.split-second.result.0 c.split-third.result.0 c.split-fourth.result.0 c.split-fifth.result.0 c.split-sixth.result.0
    c.split-first.ensures.limb c.split-first.ensures.rest c.split-second.ensures.limb c.split-second.ensures.rest
    c.split-third.ensures.limb c.split-third.ensures.rest c.split-fourth.ensures.limb c.split-fourth.ensures.rest
    c.split-fifth.ensures.limb c.split-fifth.ensures.rest c.split-sixth.ensures.limb l p
