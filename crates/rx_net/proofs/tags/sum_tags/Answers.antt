use Rattle.std.proofs.Common.{◌≡◌, ℕ, ℤ, pos, ap, sym, ◌∙◌, get_or, ◌≤◌, List, length, drop, rules}
use Rattle.std.proofs.lemmas.Int.{to_z-of_z}
use Rattle.std.proofs.lemmas.List.{get_or_default}
use mir.Syntax.{w8, w16}
use mir.Val.{SFits}
use Rattle.rx_net.specs.declared.term.Term.{Term}
use Rattle.rx_net.specs.Tags.{sum_of}
use Rattle.rx_net.proofs.Sums.{summed_none, summed_more, sum_ends}
use Rattle.rx_net.proofs.tags.sum_tags.Goals as goal

pub loop-term-init : goal.loop-term-init
loop-term-init c =
    summed_none _ _ _ _ _ _ _ c.of_constant-sums.ensures.low c.of_constant-sums.ensures.high c.of_constant-sums.ensures.noise
    c.of_constant-sums.ensures.low_size c.of_constant-sums.ensures.high_size

pub loop-term-preserved : goal.loop-term-preserved
loop-term-preserved c =
    let t : Term = get_or c.args.terms.now c.loop-term.term-index (record { cell = 0; weight = pos 0 }) in
    let fits : SFits w8 t.weight = search rules in
    summed_more _ _ _ _ _ _ _ _ c.loop-term.invariant
    t c.loop-term-test.true (get_or_default c.args.terms.now c.loop-term.term-index _ t c.loop-term-test.true) _ _ _
    (to_z-of_z w8 t.weight fits) c.tags_at-tags.ensures.degree c.tags_at-tags.ensures.noise
    _ _ _ c.with-sums.ensures.low c.with-sums.ensures.high c.with-sums.ensures.noise
    c.with-sums.ensures.low_size c.with-sums.ensures.high_size c.with-sums.ensures.noise_size

-- a sum over no terms that are left is the sum over all
whole : (part : Term → ℤ) (k z sum : ℤ) (ts : List Term) (i : ℕ) → z ≡ k → length ts ≤ i → sum_of part sum (drop i ts) ≡ sum_of part z ts → sum ≡ sum_of part k ts
whole part k z sum ts i e p h = sym (sum_ends part sum ts i p) ∙ h ∙ ap (λ k. sum_of part k ts) e

pub returns-clause-low : goal.returns-clause-low
returns-clause-low c = let fits : SFits w16 c.args.constant = search rules in whole _ c.args.constant _ _ _ _ (to_z-of_z w16 c.args.constant fits) c.loop-term-test.false c.loop-term.invariant.low_is

pub returns-clause-high : goal.returns-clause-high
returns-clause-high c = let fits : SFits w16 c.args.constant = search rules in whole _ c.args.constant _ _ _ _ (to_z-of_z w16 c.args.constant fits) c.loop-term-test.false c.loop-term.invariant.high_is
