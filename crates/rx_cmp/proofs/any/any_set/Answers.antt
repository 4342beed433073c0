use Rattle.std.proofs.Common.{◌≡◌, ◌≤◌, ◌+◌, ◌^◌, ℕ, length, ◌∙◌, sym, ap, subst}
use Rattle.std.proofs.lemmas.Result.{IfOk-weaker}
use Rattle.rx_params.specs.Derived.{noise_limit}
use Rattle.rx_cmp.proofs.any.any_set.Goals as goal

pub returns-clause-planned : goal.returns-clause-planned
returns-clause-planned c =
    let p = c.args.pen.now in
    let e : c.from-most.result + 1 ≡ noise_limit p.space = ap (λ u. u + 1) (c.from-most.ensures ∙ c.unit_of.ensures.value ∙ ap (λ s. 2 ^ s) c.space-space.ensures.value) in
    IfOk-weaker c.any_by.result _ _ (λ k m. λ t n. m t (subst (λ (b : ℕ). length c.args.nodes.items ≤ b ^ t) (sym e) n)) c.any_by.ensures.planned
