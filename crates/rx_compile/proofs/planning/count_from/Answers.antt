use Rattle.std.proofs.Common.{◌≡◌, ℕ, suc, ◌+◌, ◌-◌, ◌≤◌, [], ◌∷◌, ◌++◌, sym, ap, ◌∙◌, arith}
use Rattle.std.specs.List.{range_with_len}
use Rattle.rx_compile.proofs.Ranges.{range_more}
use Rattle.rx_compile.proofs.planning.count_from.Goals as goal

pub loop-cell-preserved : goal.loop-cell-preserved
loop-cell-preserved c =
    let a : ℕ = c.args.first in
    let cell : ℕ = c.loop-cell.cell in
    let h = c.loop-cell.invariant in
    let n : ℕ = cell - a in
    let low : a ≤ cell = h.1.0 in
    let here : cell ≡ a + n = omega (arith, low) in
    let more : suc n ≡ cell + 1 - a = omega (arith, low) in (
      c.in_ok-push.ensures.items
          ∙ ap (λ xs. xs ++ cell ∷ []) h.0
          ∙ ap (λ x. range_with_len a n ++ x ∷ []) here
          ∙ sym (range_more a n)
          ∙ ap (range_with_len a) more,
      (omega (arith, low), omega (arith, c.loop-cell-test.true)),
    )
