use Rattle.std.proofs.Common.{◌≡◌, ℕ, ℤ, pos, ◌-ℤ◌, ◌*ℤ◌, ◌-◌, ◌^◌, get_or, refl, ◌∙◌, ap, arith}
use Rattle.rx_points.specs.Residues.{residue}
use Rattle.rx_points.proofs.LimbProducts.{each_written, set_above, taken_once}
use Rattle.rx_points.proofs.products.subtract_four.Goals as goal

pub loop-place-init : goal.loop-place-init
loop-place-init c = record { written = λ t p. absurd (omega arith); left = λ t p. refl }

pub loop-place-preserved : goal.loop-place-preserved
loop-place-preserved c =
    let i : ℕ = c.loop-place.place in
    let total : ℤ = get_or c.args.totals (3 - i) (pos 0) in
    record {
      written = each_written
          (λ t v. residue (pos v) ≡ residue (pos (get_or c.args.sums.now t 0) -ℤ pos (2 ^ c.args.shift) *ℤ get_or c.args.totals (3 - t) (pos 0)))
          c.loop-place.sums i _ (omega arith) c.loop-place.invariant.written
          (taken_once (get_or c.loop-place.sums i 0) c.cast_unsigned-total.result c.args.shift total (c.requires.fits (3 - i) (omega arith)) c.cast_unsigned-total.ensures
          ∙ ap (λ x. residue (pos x -ℤ pos (2 ^ c.args.shift) *ℤ total)) (c.loop-place.invariant.left i (omega arith)));
      left = λ t p. set_above c.loop-place.sums i _ t (omega arith) ∙ c.loop-place.invariant.left t (omega arith);
    }

pub returns : goal.returns
returns c = λ t p. c.loop-place.invariant.written t (omega arith)
