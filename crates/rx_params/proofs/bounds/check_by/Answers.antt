use Rattle.std.proofs.Common.{◌<◌, ◌≤◌, ◌*◌, ◌^◌, ◌≡◌, ◌∙◌, ap, sym, refl, true, Ok, Err}
use Rattle.rx_laws.specs.Decode.{plaintexts}
use Rattle.rx_params.specs.declared.bounds.Bounds.{Bounds}
use Rattle.rx_params.specs.declared.bounds.Refused.TheVariants.{Noise}
use Rattle.rx_params.specs.Derived.{bounds_by}
use Rattle.rx_params.proofs.Refusals.{AllButNoise, checked_by-accepted, checked_by-refused, refused-noise}
use Rattle.rx_params.proofs.bounds.check_by.Goals as goal

pub returns-then-bounds : goal.returns-then-bounds
returns-then-bounds c =
    let fields = c.in_ok-check_fields.ensures.in_range.0 refl in
    let all : AllButNoise c.args.rotation c.args.p.now = record {
      fields = fields.0;
      whole = fields.1;
      key = c.in_ok-check_key.ensures.few.0 refl;
      wide = c.in_ok-check_box.ensures.wide.0 refl;
    } in
    let below : (bounds_by c.args.rotation c.args.p.now).left < (bounds_by c.args.rotation c.args.p.now).right =
    rw c.sums-bounds.ensures at c.if-bounds.true in
    ap Ok c.sums-bounds.ensures ∙ sym (checked_by-accepted c.args.rotation c.args.p.now all below)

pub returns-else-bounds : goal.returns-else-bounds
returns-else-bounds c =
    let fields = c.in_ok-check_fields.ensures.in_range.0 refl in
    let all : AllButNoise c.args.rotation c.args.p.now = record {
      fields = fields.0;
      whole = fields.1;
      key = c.in_ok-check_key.ensures.few.0 refl;
      wide = c.in_ok-check_box.ensures.wide.0 refl;
    } in
    let above : (bounds_by c.args.rotation c.args.p.now).right ≤ (bounds_by c.args.rotation c.args.p.now).left =
    rw c.sums-bounds.ensures at c.if-bounds.false in
    let found : Bounds = bounds_by c.args.rotation c.args.p.now in
    ap (λ (b : Bounds). Err (Noise b.left b.right)) c.sums-bounds.ensures
    ∙ sym (checked_by-refused c.args.rotation c.args.p.now (Noise found.left found.right) (refused-noise c.args.rotation c.args.p.now all above))
