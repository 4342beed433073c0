use Rattle.std.proofs.Common.{◌≡◌, ℕ, pos, ◌<◌, arith}
use Rattle.std.proofs.lemmas.Result.{IfOk-weaker}
use Rattle.std.proofs.lemmas.Int.{to_z_pos}
use mir.Syntax.{w16}
use mir.Val.{to_z}
use Rattle.rx_net.specs.Cells.{cell_count, degree, noise}
use Rattle.rx_plan.proofs.Terms.{minus_fits, minus_makes}
use Rattle.rx_plan.proofs.differences.difference.Goals as goal

base : (u : ℕ) → u < 256 → to_z w16 u ≡ pos u
base u h = to_z_pos w16 u (omega arith)

pub place-requires-clause-fits : goal.place-requires-clause-fits
place-requires-clause-fits c =
    let p = c.args.pen.now in
    let r = c.requires in
    minus_fits p.space (cell_count p) (degree p) (noise p) (to_z w16 c.args.base) c.args.base c.args.plus c.args.minus c.args.table.now
    (base c.args.base c.ranges.base.fits) r.plus r.minus r.low r.range r.noises r.table

pub returns-clause-makes : goal.returns-clause-makes
returns-clause-makes c =
    let p = c.args.pen.now in
    let r = c.requires in
    let e : to_z w16 c.args.base ≡ pos c.args.base = base c.args.base c.ranges.base.fits in
    IfOk-weaker c.place.result _ _ (λ k h. minus_makes p c.place.new.self k (to_z w16 c.args.base) c.args.base c.args.plus c.args.minus c.args.table.now e c.space-space.ensures.bounded r.minus r.low
    (minus_fits p.space (cell_count p) (degree p) (noise p) (to_z w16 c.args.base) c.args.base c.args.plus c.args.minus c.args.table.now e r.plus r.minus r.low r.range r.noises r.table) h) c.place.ensures.adds
