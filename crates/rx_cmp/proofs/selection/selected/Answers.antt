use Rattle.std.proofs.Common.{◌%◌, ℕ, List, length, ◌∙◌, sym, subst}
use Rattle.std.proofs.lemmas.Result.{IfOk-weaker}
use Rattle.rx_net.specs.Tags.{greatest_of}
use Rattle.rx_plan.specs.Planned.{EachOf, Planned}
use Rattle.rx_plan.proofs.PerBlock.{table_here, pair_values}
use Rattle.rx_cmp.proofs.Chosen.{selected_planned}
use Rattle.rx_cmp.proofs.selection.selected.Goals as goal

pub returns-clause-planned : goal.returns-clause-planned
returns-clause-planned c =
    let p = c.args.pen.now in
    let one = c.kept.new.pen in
    let two = c.kept-2.new.pen in
    let first : List ℕ = c.in_ok-first.first.items in
    let second : List ℕ = c.in_ok-second.second.items in
    let table : List ℕ = c.deref-3.result.now in
    let new = c.blockwise.new.pen in
    let space = c.space-space.ensures.value ∙ sym c.in_ok-first.ensures.kept.space ∙ sym c.in_ok-second.ensures.kept.space in
    let h = table_here (λ u i. i % u) c.space-space.result two.space c.in_ok-table.table.items table space c.deref-3.ensures.value c.in_ok-table.ensures in
    IfOk-weaker c.blockwise.result _ _ (λ cells q.
    selected_planned p one two new cells.items first second c.args.a.now c.args.b.now table c.args.bit c.space-space.ensures.bounded c.requires.same c.requires.bit c.requires.first c.requires.second h
    c.in_ok-first.ensures.planned c.in_ok-second.ensures.planned
    (subst (λ (ys : List ℕ). Planned two new cells.items (λ _. greatest_of table) (length first) (length first) 1 (EachOf first ys) (pair_values two 1 table first ys)) c.deref-2.ensures.value
    (subst (λ (xs : List ℕ). Planned two new cells.items (λ _. greatest_of table) (length xs) (length xs) 1 (EachOf xs c.deref-2.result.now) (pair_values two 1 table xs c.deref-2.result.now)) c.deref.ensures.value q)))
    c.blockwise.ensures.planned
