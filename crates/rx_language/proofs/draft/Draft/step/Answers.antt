use Rattle.std.proofs.Common.{◌≡◌, sym, ap, ◌∙◌}
use Rattle.std.proofs.lemmas.Result.{err_from_is_err_and}
use Rattle.rx_language.specs.Programs.{Program}
use Rattle.rx_language.proofs.Taken.{step_is, no_step_is}
use Rattle.rx_language.proofs.draft.Draft.step.Goals as goal

pub returns-in_err-kind : goal.returns-in_err-kind
returns-in_err-kind c =
    let p = err_from_is_err_and c.from_residual-in_err-kind.result c.from_residual-in_err-kind.ensures.1 in
    let w : c.self.inside.width ≡ c.args.self.now.width = ap (λ (p : Program). p.width) c.self.view_is in
    let found = rw c.asked.ensures at c.in_ok-sources.ensures in
    let ruled = rw (c.form-rule.ensures, c.deref.ensures.value, c.width_of-width.ensures, w) at c.kind_of.ensures in
    rw (p.1, p.2) (no_step_is c.args.self.now.width c.args.self.now.lines c.args.line.now c.in_ok-sources.field-0.sources.items c.in_ok-sources.field-0.kinds.items
    c.kind_of.result c.in_err-kind.field-0.0 found c.in_err-kind.ensures.value ruled)

pub returns : goal.returns
returns c =
    let w : c.self.inside.width ≡ c.args.self.now.width = ap (λ (p : Program). p.width) c.self.view_is in
    let found = rw c.asked.ensures at c.in_ok-sources.ensures in
    let ruled = rw (c.form-rule.ensures, c.deref.ensures.value, c.width_of-width.ensures, w) at c.kind_of.ensures in
    let kind = sym c.in_ok-kind.ensures.ok_part ∙ ruled in
    rw c.from_vec.ensures
    (step_is c.args.self.now.width c.args.self.now.lines c.args.line.now c.in_ok-sources.field-0.sources.items c.in_ok-sources.field-0.kinds.items c.in_ok-kind.kind found kind)
