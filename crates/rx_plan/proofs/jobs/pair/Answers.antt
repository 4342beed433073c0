use Rattle.std.proofs.Common.{◌≡◌, ℕ, pos, ◌<◌, arith}
use Rattle.std.proofs.lemmas.Result.{IfOk-weaker}
use Rattle.std.proofs.lemmas.Int.{to_z_pos}
use mir.Syntax.{w8}
use mir.Val.{to_z}
use Rattle.rx_net.specs.Cells.{cell_count, degree, noise}
use Rattle.rx_plan.proofs.Terms.{pair_fits, pair_makes}
use Rattle.rx_plan.proofs.jobs.pair.Goals as goal

weight : (f : ℕ) → f < 16 → to_z w8 f ≡ pos f
weight f h = to_z_pos w8 f (omega arith)

pub place-requires-clause-fits : goal.place-requires-clause-fits
place-requires-clause-fits c =
    let p = c.args.pen.now in
    let r = c.requires in
    pair_fits p.space (cell_count p) (degree p) (noise p) (to_z w8 c.args.factor) c.args.factor c.args.high c.args.low c.args.table.now
    (weight c.args.factor r.factor) r.high r.low r.range r.noises r.table

pub returns-clause-makes : goal.returns-clause-makes
returns-clause-makes c =
    let p = c.args.pen.now in
    let r = c.requires in
    let e : to_z w8 c.args.factor ≡ pos c.args.factor = weight c.args.factor r.factor in
    IfOk-weaker c.place.result _ _ (λ k h. pair_makes p c.place.new.self k (to_z w8 c.args.factor) c.args.factor c.args.high c.args.low c.args.table.now e
    (pair_fits p.space (cell_count p) (degree p) (noise p) (to_z w8 c.args.factor) c.args.factor c.args.high c.args.low c.args.table.now e r.high r.low r.range r.noises r.table) h) c.place.ensures.adds
