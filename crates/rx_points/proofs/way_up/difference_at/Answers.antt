use Rattle.std.proofs.Common.{◌+◌, ◌-◌, length, arith}
use Rattle.rx_points.proofs.ResidueBlocks.{back_kept, back_wrapped}
use Rattle.rx_points.proofs.way_up.difference_at.Goals as goal

pub returns-then-i-s : goal.returns-then-i-s
returns-then-i-s c =
    back_kept (length c.args.near.now) c.args.s c.args.i c.args.near.now c.args.away.now (omega (arith, c.if-i-s.true))
    (c.type_inv.away (c.args.i + c.args.s)).fits

pub returns-else-i-s : goal.returns-else-i-s
returns-else-i-s c =
    back_wrapped (length c.args.near.now) c.args.s c.args.i c.args.near.now c.args.away.now c.requires.turn c.requires.place (omega (arith, c.if-i-s.false))
    (c.type_inv.near (c.args.i + c.args.s - length c.args.near.now)).fits
