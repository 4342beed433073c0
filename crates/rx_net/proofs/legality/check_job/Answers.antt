use Rattle.std.proofs.Common.{rules}
use Rattle.std.proofs.lemmas.Int.{to_z-of_z}
use Rattle.std.proofs.lemmas.Result.{err_from_is_err_and}
use mir.Syntax.{w16}
use mir.Val.{SFits}
use Rattle.rx_net.proofs.Faults.{passed_on}
use Rattle.rx_net.proofs.Fits.{job_stops, job_passes, job_differs}
use Rattle.rx_net.proofs.legality.check_job.Goals as goal

pub returns-in_err-reached : goal.returns-in_err-reached
returns-in_err-reached c =
    let fits : SFits w16 c.args.job.now.constant = search rules in
    let p = err_from_is_err_and c.from_residual.result c.from_residual.ensures.1 in
    passed_on c.from_residual.result p.0 _ _ p.1 p.2
    (job_stops c.args.space c.args.inputs.now c.args.before.now c.args.job.now c.as_slice-terms.result.now _ c.as_slice-table.result.now c.as_slice-terms.ensures (to_z-of_z w16 c.args.job.now.constant fits) c.as_slice-table.ensures _ c.in_err-reached.ensures.fault)

pub returns-then-job-reached : goal.returns-then-job-reached
returns-then-job-reached c =
    let fits : SFits w16 c.args.job.now.constant = search rules in
    job_passes c.args.space c.args.inputs.now c.args.before.now c.args.job.now c.as_slice-terms.result.now _ c.as_slice-table.result.now c.as_slice-terms.ensures (to_z-of_z w16 c.args.job.now.constant fits) c.as_slice-table.ensures c.in_ok-reached.ensures.fault c.in_ok-reached.reached c.in_ok-reached.ensures.degree c.if-job-reached.true

pub returns-else-job-reached : goal.returns-else-job-reached
returns-else-job-reached c =
    let fits : SFits w16 c.args.job.now.constant = search rules in
    job_differs c.args.space c.args.inputs.now c.args.before.now c.args.job.now c.as_slice-terms.result.now _ c.as_slice-table.result.now c.as_slice-terms.ensures (to_z-of_z w16 c.args.job.now.constant fits) c.as_slice-table.ensures c.in_ok-reached.ensures.fault c.in_ok-reached.reached c.in_ok-reached.ensures.degree c.if-job-reached.false
