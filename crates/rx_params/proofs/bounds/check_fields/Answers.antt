use Rattle.std.proofs.Common.{◌<◌, ◌≤◌, ◌+◌, length, Some, refl, sym, ◌∙◌, ap}
use Rattle.rx_params.specs.declared.bounds.Refused.TheVariants.{Limit}
use Rattle.rx_params.specs.Acceptance.{first_outside}
use Rattle.rx_params.proofs.Refusals.{one_more_inside, first_is_outside, all_are_inside, refused-field, none_pass, pass_none, fields_pass, pass_fields, pass_whole}
use Rattle.rx_params.proofs.bounds.check_fields.Goals as goal

pub loop-place-preserved : goal.loop-place-preserved
loop-place-preserved c =
    let below : c.loop-place.place < length c.limited_fields-fields.result = rw c.limited_fields-fields.ensures c.loop-place-test.true in
    one_more_inside c.limited_fields-fields.result c.loop-place.place below c.if-not-is_inside.false c.loop-place.invariant

pub returns-then-not-is_inside-clause-first : goal.returns-then-not-is_inside-clause-first
returns-then-not-is_inside-clause-first c =
    let below : c.loop-place.place < length c.limited_fields-fields.result = rw c.limited_fields-fields.ensures c.loop-place-test.true in
    let outside = first_is_outside c.limited_fields-fields.result c.loop-place.place below c.if-not-is_inside.true c.loop-place.invariant in
    refused-field c.args.rotation c.args.p.now _ (sym (ap (first_outside 1) c.limited_fields-fields.ensures) ∙ outside)
    ∙ ap (λ n. Some (Limit (c.loop-place.place + 1) n)) (sym c.from.ensures)

pub returns-then-not-is_inside-clause-in_range : goal.returns-then-not-is_inside-clause-in_range
returns-then-not-is_inside-clause-in_range c =
    let below : c.loop-place.place < length c.limited_fields-fields.result = rw c.limited_fields-fields.ensures c.loop-place-test.true in
    let outside = first_is_outside c.limited_fields-fields.result c.loop-place.place below c.if-not-is_inside.true c.loop-place.invariant in (
      λ h. cc,
      λ f. let none = ap (first_outside 1) c.limited_fields-fields.ensures ∙ pass_none c.args.rotation c.args.p.now (fields_pass c.args.rotation c.args.p.now f.0 f.1) in cc,
    )

pub returns-clause-in_range : goal.returns-clause-in_range
returns-clause-in_range c =
    let past : length c.limited_fields-fields.result ≤ c.loop-place.place = rw c.limited_fields-fields.ensures c.loop-place-test.false in
    let none = all_are_inside c.limited_fields-fields.result c.loop-place.place past c.loop-place.invariant in
    let pass = none_pass c.args.rotation c.args.p.now (sym (ap (first_outside 1) c.limited_fields-fields.ensures) ∙ none) in
    (λ h. (pass_fields c.args.rotation c.args.p.now pass, pass_whole c.args.rotation c.args.p.now pass), λ f. refl)
