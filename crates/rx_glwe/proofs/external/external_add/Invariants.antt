use Rattle.std.proofs.Common.{◌+◌}
use Rattle.rx_ring.specs.Parts.{AreParts}
use Rattle.rx_glwe.proofs.ExternalSums.{polynomials_added}
use Rattle.rx_glwe.proofs.external.external_add.Given as goal

abbrev pub invariant-loop-j : goal.invariant-loop-j
invariant-loop-j l = AreParts l.p.poly_size (l.p.glwe_dim + 1) (polynomials_added l.p l.ggsw l.input l.fn.acc l.j) l.acc
