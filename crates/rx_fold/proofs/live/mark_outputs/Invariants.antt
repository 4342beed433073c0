use Rattle.std.proofs.Common.{◌≡◌, ◌<◌, ℕ, drop, length}
use Rattle.std.specs.Prelude.{◌==◌, ◌||◌}
use Rattle.std.specs.List.{list_any}
use Rattle.rx_fold.specs.Folded.{cells_given}
use Rattle.rx_fold.specs.Passes.{cell_in, is_marked}
use Rattle.rx_fold.proofs.live.mark_outputs.Given as goal

abbrev pub invariant-loop-output : goal.invariant-loop-output
invariant-loop-output l = (x : ℕ) → x < length l.fn.live → (is_marked l.live x || list_any (λ c. cell_in l.reps c == x) (cells_given (drop l.output-index l.outputs)))
    ≡ (is_marked l.fn.live x || list_any (λ c. cell_in l.reps c == x) (cells_given l.outputs))
