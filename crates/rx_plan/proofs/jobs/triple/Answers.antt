use Rattle.std.proofs.lemmas.Result.{IfOk-weaker}
use Rattle.rx_net.specs.Cells.{cell_count, degree, noise}
use Rattle.rx_plan.proofs.Terms.{triple_fits, triple_makes}
use Rattle.rx_plan.proofs.jobs.triple.Goals as goal

pub place-requires-clause-fits : goal.place-requires-clause-fits
place-requires-clause-fits c =
    let p = c.args.pen.now in
    let r = c.requires in
    triple_fits p.space (cell_count p) (degree p) (noise p) c.args.first c.args.second c.args.third c.args.table.now r.first r.second r.third r.range r.noises r.table

pub returns-clause-makes : goal.returns-clause-makes
returns-clause-makes c =
    let p = c.args.pen.now in
    let r = c.requires in
    IfOk-weaker c.place.result _ _ (λ k h. triple_makes p c.place.new.self k c.args.first c.args.second c.args.third c.args.table.now
    (triple_fits p.space (cell_count p) (degree p) (noise p) c.args.first c.args.second c.args.third c.args.table.now r.first r.second r.third r.range r.noises r.table) h) c.place.ensures.adds
