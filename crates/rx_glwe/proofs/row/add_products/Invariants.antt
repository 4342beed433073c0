use Rattle.std.proofs.Common.{length}
use Rattle.rx_laws.specs.Words.{AreWords}
use Rattle.rx_glwe.proofs.MaskProducts.{products_added}
use Rattle.rx_glwe.proofs.row.add_products.Given as goal

abbrev pub invariant-loop-j : goal.invariant-loop-j
invariant-loop-j l = AreWords (length l.fn.body) (products_added (length l.fn.body) l.bits l.masks l.fn.body l.j) l.body
