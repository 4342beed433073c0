use Rattle.std.proofs.Common.{◌≡◌, ◌<◌, ℕ, drop, length}
use Rattle.std.specs.Prelude.{◌==◌, ◌||◌}
use Rattle.std.specs.List.{list_any}
use Rattle.rx_fold.specs.Passes.{cell_in, is_marked}
use Rattle.rx_fold.proofs.live.mark_cells.Given as goal

abbrev pub invariant-loop-cell : goal.invariant-loop-cell
invariant-loop-cell l = (x : ℕ) → x < length l.fn.live → (is_marked l.live x || list_any (λ c. cell_in l.reps c == x) (drop l.cell-index l.cells))
    ≡ (is_marked l.fn.live x || list_any (λ c. cell_in l.reps c == x) l.cells)
