use Rattle.std.proofs.Common.{◌+◌}
use Rattle.rx_ring.specs.Parts.{AreParts}
use Rattle.rx_glwe.specs.Levels.{levels_added}
use Rattle.rx_glwe.proofs.external.levels_add.Given as goal

abbrev pub invariant-loop-t : goal.invariant-loop-t
invariant-loop-t l = AreParts l.p.poly_size (l.p.glwe_dim + 1) (levels_added l.p l.digits l.rows l.fn.acc l.t) l.acc
