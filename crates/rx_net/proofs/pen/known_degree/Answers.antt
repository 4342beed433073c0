use Rattle.std.proofs.Common.{◌≡◌, ◌<◌, ◌≤ℤ◌, ◌+◌, ℕ, ℤ, pos, length, ap, sym, ◌∙◌, subst, rules, get_or, refl}
use Rattle.std.specs.List.{AllByRecursion}
use Rattle.std.proofs.lemmas.Int.{to_z-of_z}
use mir.Syntax.{w16, w32}
use mir.Val.{SFits, to_z, of_z}
use Rattle.rx_net.specs.declared.term.Term.{Term}
use Rattle.rx_net.specs.Tags.{low_of, high_of, natural, greatest_between}
use Rattle.rx_net.specs.Cells.{input_cells, cell_count, degrees_after, degree}
use Rattle.rx_net.proofs.Limits.{cell_count_is}
use Rattle.rx_net.proofs.Fits.{low_high, high_within}
use Rattle.rx_net.proofs.Additions.{degrees_lent}
use Rattle.rx_net.proofs.pen.known_degree.Goals as goal

pub sum_tags-sum-requires-clause-forward : goal.sum_tags-sum-requires-clause-forward
sum_tags-sum-requires-clause-forward c =
    let n : cell_count c.args.net.now ≡ input_cells c.args.net.now.space c.as_slice-inputs.result.now + length c.as_slice-jobs.result.now =
    sym (cell_count_is c.args.net.now c.as_slice-inputs.result.now c.as_slice-jobs.result.now _ _ c.as_slice-inputs.ensures c.as_slice-jobs.ensures refl refl) in
    subst (λ (n : ℕ). AllByRecursion (λ (t : Term). t.cell < n) c.args.terms.now) n c.requires.fits.forward

pub greatest_in-requires-clause-low : goal.greatest_in-requires-clause-low
greatest_in-requires-clause-low c =
    let fits : SFits w16 c.args.constant = search rules in
    let same = to_z-of_z w16 c.args.constant fits in
    let low : c.sum_tags-sum.result.low ≡ low_of (degree c.args.net.now) c.args.constant c.args.terms.now =
    c.sum_tags-sum.ensures.low ∙ ap (λ k. low_of (λ i. get_or (degrees_after c.args.net.now.space c.as_slice-inputs.result.now c.as_slice-jobs.result.now) i 0) k c.args.terms.now) same ∙ ap (λ d. low_of d c.args.constant c.args.terms.now) (degrees_lent c.args.net.now c.requires.legal c.args.terms.now c.args.constant c.args.table.now c.as_slice-inputs.result.now c.as_slice-jobs.result.now c.as_slice-inputs.ensures c.as_slice-jobs.ensures) in
    let high : c.sum_tags-sum.result.high ≡ high_of (degree c.args.net.now) c.args.constant c.args.terms.now =
    c.sum_tags-sum.ensures.high ∙ ap (λ k. high_of (λ i. get_or (degrees_after c.args.net.now.space c.as_slice-inputs.result.now c.as_slice-jobs.result.now) i 0) k c.args.terms.now) same ∙ ap (λ d. high_of d c.args.constant c.args.terms.now) (degrees_lent c.args.net.now c.requires.legal c.args.terms.now c.args.constant c.args.table.now c.as_slice-inputs.result.now c.as_slice-jobs.result.now c.as_slice-inputs.ensures c.as_slice-jobs.ensures) in
    let wide_low : SFits w32 c.sum_tags-sum.result.low = search rules in
    let wide_high : SFits w32 c.sum_tags-sum.result.high = search rules in
    let low' = to_z-of_z w32 c.sum_tags-sum.result.low wide_low ∙ low in
    let high' = to_z-of_z w32 c.sum_tags-sum.result.high wide_high ∙ high in
    subst (λ (z : ℤ). pos 0 ≤ℤ z) (sym low') c.requires.fits.low

pub greatest_in-requires-clause-order : goal.greatest_in-requires-clause-order
greatest_in-requires-clause-order c =
    let fits : SFits w16 c.args.constant = search rules in
    let same = to_z-of_z w16 c.args.constant fits in
    let low : c.sum_tags-sum.result.low ≡ low_of (degree c.args.net.now) c.args.constant c.args.terms.now =
    c.sum_tags-sum.ensures.low ∙ ap (λ k. low_of (λ i. get_or (degrees_after c.args.net.now.space c.as_slice-inputs.result.now c.as_slice-jobs.result.now) i 0) k c.args.terms.now) same ∙ ap (λ d. low_of d c.args.constant c.args.terms.now) (degrees_lent c.args.net.now c.requires.legal c.args.terms.now c.args.constant c.args.table.now c.as_slice-inputs.result.now c.as_slice-jobs.result.now c.as_slice-inputs.ensures c.as_slice-jobs.ensures) in
    let high : c.sum_tags-sum.result.high ≡ high_of (degree c.args.net.now) c.args.constant c.args.terms.now =
    c.sum_tags-sum.ensures.high ∙ ap (λ k. high_of (λ i. get_or (degrees_after c.args.net.now.space c.as_slice-inputs.result.now c.as_slice-jobs.result.now) i 0) k c.args.terms.now) same ∙ ap (λ d. high_of d c.args.constant c.args.terms.now) (degrees_lent c.args.net.now c.requires.legal c.args.terms.now c.args.constant c.args.table.now c.as_slice-inputs.result.now c.as_slice-jobs.result.now c.as_slice-inputs.ensures c.as_slice-jobs.ensures) in
    let wide_low : SFits w32 c.sum_tags-sum.result.low = search rules in
    let wide_high : SFits w32 c.sum_tags-sum.result.high = search rules in
    let low' = to_z-of_z w32 c.sum_tags-sum.result.low wide_low ∙ low in
    let high' = to_z-of_z w32 c.sum_tags-sum.result.high wide_high ∙ high in
    let h : low_of (degree c.args.net.now) c.args.constant c.args.terms.now ≤ℤ high_of (degree c.args.net.now) c.args.constant c.args.terms.now = low_high (degree c.args.net.now) c.args.constant c.args.terms.now in
    subst (λ (z : ℤ). z ≤ℤ to_z w32 (of_z w32 c.sum_tags-sum.result.high)) (sym low') (subst (λ (z : ℤ). low_of (degree c.args.net.now) c.args.constant c.args.terms.now ≤ℤ z) (sym high') h)

pub greatest_in-requires-clause-within : goal.greatest_in-requires-clause-within
greatest_in-requires-clause-within c =
    let fits : SFits w16 c.args.constant = search rules in
    let same = to_z-of_z w16 c.args.constant fits in
    let low : c.sum_tags-sum.result.low ≡ low_of (degree c.args.net.now) c.args.constant c.args.terms.now =
    c.sum_tags-sum.ensures.low ∙ ap (λ k. low_of (λ i. get_or (degrees_after c.args.net.now.space c.as_slice-inputs.result.now c.as_slice-jobs.result.now) i 0) k c.args.terms.now) same ∙ ap (λ d. low_of d c.args.constant c.args.terms.now) (degrees_lent c.args.net.now c.requires.legal c.args.terms.now c.args.constant c.args.table.now c.as_slice-inputs.result.now c.as_slice-jobs.result.now c.as_slice-inputs.ensures c.as_slice-jobs.ensures) in
    let high : c.sum_tags-sum.result.high ≡ high_of (degree c.args.net.now) c.args.constant c.args.terms.now =
    c.sum_tags-sum.ensures.high ∙ ap (λ k. high_of (λ i. get_or (degrees_after c.args.net.now.space c.as_slice-inputs.result.now c.as_slice-jobs.result.now) i 0) k c.args.terms.now) same ∙ ap (λ d. high_of d c.args.constant c.args.terms.now) (degrees_lent c.args.net.now c.requires.legal c.args.terms.now c.args.constant c.args.table.now c.as_slice-inputs.result.now c.as_slice-jobs.result.now c.as_slice-inputs.ensures c.as_slice-jobs.ensures) in
    let wide_low : SFits w32 c.sum_tags-sum.result.low = search rules in
    let wide_high : SFits w32 c.sum_tags-sum.result.high = search rules in
    let low' = to_z-of_z w32 c.sum_tags-sum.result.low wide_low ∙ low in
    let high' = to_z-of_z w32 c.sum_tags-sum.result.high wide_high ∙ high in
    subst (λ (z : ℤ). natural z < length c.args.table.now) (sym high') (high_within _ _ _ _ _ _ _ c.requires.fits)

pub returns : goal.returns
returns c =
    let fits : SFits w16 c.args.constant = search rules in
    let same = to_z-of_z w16 c.args.constant fits in
    let low : c.sum_tags-sum.result.low ≡ low_of (degree c.args.net.now) c.args.constant c.args.terms.now =
    c.sum_tags-sum.ensures.low ∙ ap (λ k. low_of (λ i. get_or (degrees_after c.args.net.now.space c.as_slice-inputs.result.now c.as_slice-jobs.result.now) i 0) k c.args.terms.now) same ∙ ap (λ d. low_of d c.args.constant c.args.terms.now) (degrees_lent c.args.net.now c.requires.legal c.args.terms.now c.args.constant c.args.table.now c.as_slice-inputs.result.now c.as_slice-jobs.result.now c.as_slice-inputs.ensures c.as_slice-jobs.ensures) in
    let high : c.sum_tags-sum.result.high ≡ high_of (degree c.args.net.now) c.args.constant c.args.terms.now =
    c.sum_tags-sum.ensures.high ∙ ap (λ k. high_of (λ i. get_or (degrees_after c.args.net.now.space c.as_slice-inputs.result.now c.as_slice-jobs.result.now) i 0) k c.args.terms.now) same ∙ ap (λ d. high_of d c.args.constant c.args.terms.now) (degrees_lent c.args.net.now c.requires.legal c.args.terms.now c.args.constant c.args.table.now c.as_slice-inputs.result.now c.as_slice-jobs.result.now c.as_slice-inputs.ensures c.as_slice-jobs.ensures) in
    let wide_low : SFits w32 c.sum_tags-sum.result.low = search rules in
    let wide_high : SFits w32 c.sum_tags-sum.result.high = search rules in
    let low' = to_z-of_z w32 c.sum_tags-sum.result.low wide_low ∙ low in
    let high' = to_z-of_z w32 c.sum_tags-sum.result.high wide_high ∙ high in
    c.greatest_in.ensures ∙ ap (λ z. greatest_between c.args.table.now (natural z) (natural (to_z w32 (of_z w32 c.sum_tags-sum.result.high)))) low' ∙ ap (λ z. greatest_between c.args.table.now (natural (low_of (degree c.args.net.now) c.args.constant c.args.terms.now)) (natural z)) high'
