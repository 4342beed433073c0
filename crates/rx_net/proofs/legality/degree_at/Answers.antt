use Rattle.std.proofs.Common.{length, refl, arith}
use Rattle.rx_net.proofs.Limits.{cell_count_is, degree_is}
use Rattle.rx_net.proofs.legality.degree_at.Goals as goal

pub tags_at-requires-clause-there : goal.tags_at-requires-clause-there
tags_at-requires-clause-there c =
    omega (arith, c.requires.there, cell_count_is c.args.net.now c.as_slice.result.now c.as_slice-2.result.now _ (length c.as_slice-2.result.now) c.as_slice.ensures c.as_slice-2.ensures refl refl)

pub returns : goal.returns
returns c = degree_is c.args.net.now c.as_slice.result.now c.as_slice-2.result.now c.args.cell c.tags_at.result.degree c.as_slice.ensures c.as_slice-2.ensures c.tags_at.ensures.degree
