use Rattle.rx_laws.specs.Words.{of_words}
use Rattle.rx_poly.proofs.Terms.{HasTerms}
use Rattle.rx_poly.proofs.products.binary_product_add_by_turns.Given as goal

abbrev pub invariant-loop-j : goal.invariant-loop-j
invariant-loop-j l = HasTerms l.n l.j (of_words l.bits) (of_words l.big) l.initial.acc l.acc
