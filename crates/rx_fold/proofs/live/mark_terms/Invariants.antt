use Rattle.std.proofs.Common.{◌≡◌, ◌<◌, ℕ, drop, length}
use Rattle.std.specs.Prelude.{◌==◌, ◌||◌}
use Rattle.std.specs.List.{list_any}
use Rattle.rx_net.specs.declared.term.Term.{Term}
use Rattle.rx_fold.specs.Passes.{cell_in, is_marked}
use Rattle.rx_fold.proofs.live.mark_terms.Given as goal

abbrev pub invariant-loop-term : goal.invariant-loop-term
invariant-loop-term l = (x : ℕ) → x < length l.fn.live → (is_marked l.live x || list_any (λ (t : Term). cell_in l.reps t.cell == x) (drop l.term-index l.terms))
    ≡ (is_marked l.fn.live x || list_any (λ (t : Term). cell_in l.reps t.cell == x) l.terms)
