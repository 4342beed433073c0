use Rattle.std.proofs.Common.{◌+◌, ◌-◌, ℕ, length, get_or, refl, ◌∙◌, arith}
use Rattle.rx_laws.specs.Words.{of_words}
use Rattle.rx_points.proofs.Residues.{residue-wrapping_sub}
use Rattle.rx_points.proofs.KeyPoints.{turned_negated, turned_kept}
use Rattle.rx_points.proofs.key.turned_at.Goals as goal

pub returns-then-i-s : goal.returns-then-i-s
returns-then-i-s c =
    let x : ℕ = get_or c.args.block.now (c.args.i + length c.args.block.now - c.args.s) 0 in
    let fits = c.type_inv.block (c.args.i + length c.args.block.now - c.args.s) in
    residue-wrapping_sub 0 x (omega (arith, fits.fits))
    ∙ turned_negated (length c.args.block.now) c.args.s c.args.i x (of_words c.args.block.now) (omega (arith, c.if-i-s.true)) refl

pub returns-else-i-s : goal.returns-else-i-s
returns-else-i-s c =
    turned_kept (length c.args.block.now) c.args.s c.args.i (get_or c.args.block.now (c.args.i - c.args.s) 0) (of_words c.args.block.now)
    (omega (arith, c.if-i-s.false)) refl
