use Rattle.std.proofs.lemmas.Result.{IfOk-weaker}
use Rattle.rx_net.specs.Cells.{cell_count, degree, noise}
use Rattle.rx_plan.proofs.Terms.{single_fits, single_makes}
use Rattle.rx_plan.proofs.jobs.single.Goals as goal

pub place-requires-clause-fits : goal.place-requires-clause-fits
place-requires-clause-fits c =
    let p = c.args.pen.now in
    let r = c.requires in
    single_fits p.space (cell_count p) (degree p) (noise p) c.args.cell c.args.table.now r.there r.range r.noises r.table

pub returns-clause-makes : goal.returns-clause-makes
returns-clause-makes c =
    let p = c.args.pen.now in
    let r = c.requires in
    IfOk-weaker c.place.result _ _ (λ k h. single_makes p c.place.new.self k c.args.cell c.args.table.now
    (single_fits p.space (cell_count p) (degree p) (noise p) c.args.cell c.args.table.now r.there r.range r.noises r.table) h) c.place.ensures.adds
