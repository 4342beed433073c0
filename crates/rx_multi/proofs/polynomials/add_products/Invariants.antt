use Rattle.std.proofs.Common.{◌+◌, ◌*◌, ◌+ℤ◌, length}
use Rattle.rx_laws.specs.Sum.{sum_to}
use Rattle.rx_laws.specs.Words.{of_words, AreWords}
use Rattle.rx_ring.specs.Parts.{of_parts}
use Rattle.rx_ring.specs.Pairs.{pair_amount}
use Rattle.rx_ring.specs.Rotation.{turned_away}
use Rattle.rx_multi.proofs.polynomials.add_products.Given as goal

abbrev pub invariant-loop-e : goal.invariant-loop-e
invariant-loop-e l =
    AreWords (length l.fn.out) (λ x. of_words l.fn.out x
    +ℤ sum_to l.e (λ e. turned_away (length l.fn.out) (pair_amount (length l.fn.out) e l.amounts.first l.amounts.second)
    (of_parts (length l.fn.out) l.products) (e * l.parts + l.place) x)) l.out
