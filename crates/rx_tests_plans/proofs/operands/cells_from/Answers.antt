use Rattle.std.proofs.Common.{◌≡◌, ℕ, ◌<◌, ◌≤◌, ◌+◌, List, [], ◌∷◌, ◌++◌, length, get_or, length-append, ap, sym, ◌∙◌, refl, arith, subst}
use Rattle.rx_plan.proofs.Lists.{by_push}
use Rattle.rx_tests_plans.proofs.operands.cells_from.Goals as goal

pub loop-i-init : goal.loop-i-init
loop-i-init c = rw c.new-cells.ensures.items record { count = refl; each = λ k q. absurd (omega arith) }

more : (cs ds : List ℕ) (first i x : ℕ) → ds ≡ cs ++ x ∷ [] → x ≡ first + i → length cs ≡ i → ((k : ℕ) → k < length cs → get_or cs k 0 ≡ first + k)
    → (length ds ≡ i + 1) × ((k : ℕ) → k < length ds → get_or ds k 0 ≡ first + k)
more cs ds first i x e f n h =
    (ap length e ∙ length-append cs (x ∷ []) ∙ ap (λ m. m + 1) n, rw e (by_push cs x (λ k v. v ≡ first + k) h (f ∙ ap (λ k. first + k) (sym n))))

pub loop-i-preserved : goal.loop-i-preserved
loop-i-preserved c =
    let h = c.loop-i.invariant in
    let m = more c.loop-i.cells.items c.push.new.self.items c.args.first c.loop-i.i _ c.in_ok-push.ensures.items refl h.count h.each in
    record { count = m.0; each = m.1 }
