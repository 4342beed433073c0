use Rattle.std.proofs.Common.{◌≡◌, ◌+◌, ◌++◌, map, drop}
use Rattle.rx_fold.specs.Jobs.{moved}
use Rattle.rx_fold.specs.Folded.{kept_of}
use Rattle.rx_fold.specs.Passes.{cell_in, is_marked}
use Rattle.rx_fold.proofs.moves.move_jobs.Given as goal

abbrev pub invariant-loop-place : goal.invariant-loop-place
invariant-loop-place l = (l.moved.items ++ map (moved (cell_in l.cells)) (kept_of (is_marked l.kept) (l.inputs + l.place) (drop l.place l.jobs)))
    ≡ map (moved (cell_in l.cells)) (kept_of (is_marked l.kept) l.inputs l.jobs)
