use Rattle.std.proofs.Common.{◌+◌, ◌-◌, ℕ, List, false, map, drop, length}
use Rattle.rx_fold.specs.Jobs.{moved}
use Rattle.rx_fold.specs.Folded.{names_any, is_needed}
use Rattle.rx_fold.specs.Passes.{Tells, cell_in}
use Rattle.rx_fold.proofs.live.mark_jobs.Given as goal

abbrev pub invariant-loop-done : goal.invariant-loop-done
invariant-loop-done l = (cells : List ℕ) → Tells false (names_any cells) (length l.fn.live) l.fn.live
    → Tells false (is_needed cells (l.inputs + (length l.jobs - l.done)) (drop (length l.jobs - l.done) (map (moved (cell_in l.reps)) l.jobs))) (length l.fn.live) l.live
