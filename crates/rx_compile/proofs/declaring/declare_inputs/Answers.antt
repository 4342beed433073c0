use Rattle.std.proofs.Common.{◌≡◌, ℕ, ◌+◌, ◌<◌, List, [], ◌∷◌, ◌++◌, length, get_or, sym, ap, subst, ◌∙◌, length-append}
use Rattle.rx_plan.proofs.Lists.{by_push}
use Rattle.rx_language.specs.Programs.{Program}
use Rattle.rx_compile.specs.States.{first_cell}
use Rattle.rx_compile.proofs.Beginning.{first_count}
use Rattle.rx_compile.proofs.declaring.declare_inputs.Goals as goal

pub loop-place-preserved : goal.loop-place-preserved
loop-place-preserved c =
    let p : Program = c.args.circuit.now in
    let k : ℕ = c.loop-place.place in
    let h = c.loop-place.invariant in
    let firsts : List ℕ = c.loop-place.firsts.items in
    let cell : ℕ = c.cells.result in
    let items : c.push.new.self.items ≡ firsts ++ cell ∷ [] = c.in_ok-push.ensures.items in
    let first : cell ≡ first_cell p k = c.cells.ensures ∙ first_count p k c.loop-place.pen h.net_is in
    let here : cell ≡ first_cell p (length firsts) = first ∙ ap (first_cell p) (sym h.count) in
    record {
      net_is = c.in_ok-declare_line.ensures;
      count = ap length items ∙ length-append firsts (cell ∷ []) ∙ ap (λ n. n + 1) h.count;
      each = λ i q.
          subst (λ (xs : List ℕ). get_or xs i 0 ≡ first_cell p i) (sym items)
          (by_push firsts cell (λ i x. x ≡ first_cell p i) h.each here i (subst (λ (xs : List ℕ). i < length xs) items q));
    }
