use Rattle.std.proofs.Common.{◌≡◌, ◌||◌, ◌<◌, ℕ, List, false, length, map, refl, ◌∙◌, arith}
use Rattle.std.specs.Prelude.{◌==◌}
use Rattle.std.specs.List.{list_any}
use Rattle.rx_fold.specs.Folded.{cells_given, names_any}
use Rattle.rx_fold.specs.Passes.{Tells, cell_in}
use Rattle.rx_fold.proofs.Marks.{any_moved_cells}
use Rattle.rx_fold.proofs.live.mark_live.Goals as goal

pub returns : goal.returns
returns c = λ x b.
    let f : ℕ → ℕ = cell_in c.args.reps.now in
    let given : List ℕ = cells_given c.args.outputs.now in
    let same : length c.mark_outputs.new.live ≡ length c.args.live.now = c.mark_outputs.auto.live in
    let t : Tells false (names_any (map f given)) (length c.mark_outputs.new.live) c.mark_outputs.new.live = record {
      count = refl;
      each = λ y d. let d' : y < length c.args.live.now = omega arith in
          c.mark_outputs.ensures y d' ∙ (λ i. c.requires.none y d' i || list_any (λ (e : ℕ). f e == y) given) ∙ any_moved_cells f given y;
    } in
    let done = c.mark_jobs.ensures (map f given) t in
    done.each x (omega arith)
