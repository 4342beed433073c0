use Rattle.std.proofs.Common.{◌≡◌, map, take}
use Rattle.rx_fold.specs.Jobs.{moved_term}
use Rattle.rx_fold.specs.Passes.{cell_in}
use Rattle.rx_fold.proofs.moves.move_terms.Given as goal

abbrev pub invariant-loop-term : goal.invariant-loop-term
invariant-loop-term l = l.moved.items ≡ map (moved_term (cell_in l.cells)) (take l.term-index l.terms)
