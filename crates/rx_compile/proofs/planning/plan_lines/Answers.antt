use Rattle.std.proofs.Common.{◌≡◌, ℕ, ◌+◌, List, [], ◌∷◌, ◌++◌, length, sym, ap, subst, ◌∙◌, arith, length-append}
use Rattle.rx_net.specs.declared.net.Net.{Net}
use Rattle.rx_language.specs.Programs.{Program}
use Rattle.rx_compile.specs.States.{Holds}
use Rattle.rx_compile.proofs.Beginning.{holds_none}
use Rattle.rx_compile.proofs.Held.{holds_more}
use Rattle.rx_compile.proofs.planning.plan_lines.Goals as goal

pub loop-place-init : goal.loop-place-init
loop-place-init c =
    let p : Program = c.args.circuit.now in
    let none : c.in_ok-cells.cells.items ≡ [] = c.in_ok-cells.ensures.items in
    record {
      count = ap length none;
      holds = subst (λ (names : List (List ℕ)). Holds p c.args.pen.now names) (sym none) (holds_none p c.args.pen.now c.requires.declared);
      blank = ap (λ (n : Net). n.outputs) c.requires.declared;
    }

pub loop-place-preserved : goal.loop-place-preserved
loop-place-preserved c =
    let p : Program = c.args.circuit.now in
    let h = c.loop-place.invariant in
    let names : List (List ℕ) = c.loop-place.cells.items in
    let made : List ℕ = c.in_ok-made.made in
    let items : c.push.new.self.items ≡ names ++ made ∷ [] = c.in_ok-push.ensures.items in
    let plans = c.in_ok-made.ensures in
    record {
      count = ap length items ∙ length-append names (made ∷ []) ∙ ap (λ n. n + 1) h.count;
      holds = subst (λ (names : List (List ℕ)). Holds p c.plan_line.new.pen names) (sym items)
          (holds_more p c.loop-place.pen c.plan_line.new.pen names c.loop-place.place made (omega (arith, c.loop-place-test.true, ap length c.lines-count.ensures.value)) h.count h.holds plans);
      blank = plans.extends.outputs ∙ h.blank;
    }
