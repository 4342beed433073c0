use Rattle.std.proofs.Common.{ℕ, List, sym, subst}
use Rattle.std.proofs.lemmas.Result.{IfOk-weaker}
use Rattle.rx_plan.specs.Tables.{HasEntries}
use Rattle.rx_plan.proofs.RowCells.{nought_made, nought_gives}
use Rattle.rx_plan.proofs.rows.nought.Goals as goal

pub returns-clause-gives : goal.returns-clause-gives
returns-clause-gives c =
    let p = c.args.pen.now in
    let t : HasEntries p.space (λ _. 0) c.deref.result.now =
    subst (λ (ys : List ℕ). HasEntries p.space (λ _. 0) ys) (sym c.deref.ensures.value) (subst (λ (s : ℕ). HasEntries s (λ _. 0) c.in_ok-zeros.zeros.items) c.space-space.ensures.value c.in_ok-zeros.ensures) in
    IfOk-weaker c.fixed.result _ _ (λ k m. nought_gives p c.fixed.new.pen k _ c.deref.result.now t m) c.fixed.ensures.makes

pub returns-clause-nought : goal.returns-clause-nought
returns-clause-nought c =
    let p = c.args.pen.now in
    let t : HasEntries p.space (λ _. 0) c.deref.result.now =
    subst (λ (ys : List ℕ). HasEntries p.space (λ _. 0) ys) (sym c.deref.ensures.value) (subst (λ (s : ℕ). HasEntries s (λ _. 0) c.in_ok-zeros.zeros.items) c.space-space.ensures.value c.in_ok-zeros.ensures) in
    IfOk-weaker c.fixed.result _ _ (λ k m. nought_made p c.fixed.new.pen k _ c.deref.result.now t m) c.fixed.ensures.makes
