use Rattle.std.proofs.Common.{arith}
use Rattle.rx_params.proofs.Sizes.{poly_size-high}
use Rattle.rx_seeded.proofs.Filled.{some_masks}
use Rattle.rx_seeded.proofs.server.boot_rows.Goals as goal

pub returns-clause-some : goal.returns-clause-some
returns-clause-some c =
    omega (arith, c.large_dim-masks.ensures.value, some_masks c.args.p.now c.requires.fields)

pub returns-clause-narrow : goal.returns-clause-narrow
returns-clause-narrow c =
    omega (arith, c.large_dim-masks.ensures.high, poly_size-high c.args.p.now c.requires.fields)
