use Rattle.std.proofs.Common.{◌≡◌, ℕ, length, Some, cond, sym, ap, subst, ◌∙◌, arith}
use Rattle.std.specs.BTreeMap.{get_by_text}
use Rattle.rx_language.specs.Programs.{Program, program_of_fields, IsLawful, step_after, steps_by, defines}
use Rattle.rx_language.proofs.Drafts.{is_longer_draft}
use Rattle.rx_language.proofs.draft.Draft.with_line.Goals as goal

pub invariant_of-result : goal.invariant_of-result
invariant_of-result c =
    let p = program_of_fields c.self.inside.space c.self.inside.width c.self.inside.lines.items in
    let lawful = subst (λ (q : Program). IsLawful q.space q.width q.lines c.args.line) (sym c.self.view_is) c.requires.lawful in
    let known = subst (λ (q : Program). c.args.step ≡ step_after q.width q.lines (steps_by q.width q.lines) c.args.line) (sym c.self.view_is) c.requires.step in
    let count : c.len.result ≡ length c.self.inside.lines.items = omega (arith, c.len.ensures, c.self.inside.lines.ok) in
    rw (c.in_ok-push.ensures.items, c.in_ok-push-2.ensures.items)
    (is_longer_draft p c.args.line c.self.inside.steps.items c.args.step c.self.inside.places c.in_ok-places.places c.self.invariant
    lawful known
    (λ name. c.in_ok-places.ensures name ∙ ap (λ (place : ℕ). cond (defines name c.args.line) (Some place) (get_by_text c.self.inside.places name)) count))
