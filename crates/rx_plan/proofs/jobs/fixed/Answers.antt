use Rattle.std.proofs.Common.{pos, [], refl}
use Rattle.std.proofs.lemmas.Result.{IfOk-weaker}
use Rattle.rx_net.specs.Cells.{cell_count, degree, noise}
use Rattle.rx_plan.proofs.Terms.{some_entries, fixed_fits, job_makes}
use Rattle.rx_plan.proofs.jobs.fixed.Goals as goal

pub place-requires-clause-fits : goal.place-requires-clause-fits
place-requires-clause-fits c =
    let p = c.args.pen.now in
    fixed_fits p.space (cell_count p) (degree p) (noise p) c.args.table.now c.requires.table (some_entries p.space)

pub returns-clause-makes : goal.returns-clause-makes
returns-clause-makes c =
    let p = c.args.pen.now in
    IfOk-weaker c.place.result _ _ (λ k h. job_makes p c.place.new.self k [] (pos 0) c.args.table.now (λ _. Unit) 0 (λ _. 0)
    (fixed_fits p.space (cell_count p) (degree p) (noise p) c.args.table.now c.requires.table (some_entries p.space)) h (λ P u. tt) refl (λ xs w. refl)) c.place.ensures.adds
