use Rattle.rx_points.proofs.SixLimbs.{divided_is}
use Rattle.rx_points.proofs.limbs.divided.Goals as goal

pub returns : goal.returns
returns c = λ part sum e recovers.
    divided_is c.cast_unsigned.result c.args.high c.args.low part sum c.ranges.low c.cast_unsigned.ensures e recovers
