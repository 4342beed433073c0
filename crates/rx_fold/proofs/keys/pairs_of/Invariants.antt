use Rattle.std.proofs.Common.{◌≡◌, map, take}
use Rattle.rx_fold.specs.Jobs.{moved_term}
use Rattle.rx_fold.specs.Passes.{cell_in, term_of}
use Rattle.rx_fold.proofs.keys.pairs_of.Given as goal

abbrev pub invariant-loop-term : goal.invariant-loop-term
invariant-loop-term l = map term_of l.pairs.items ≡ map (moved_term (cell_in l.reps)) (take l.term-index l.terms)
