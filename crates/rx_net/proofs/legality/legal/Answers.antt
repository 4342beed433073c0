use Rattle.std.proofs.Common.{◌≤◌, ap, sym, subst, arith, length, [], List, Option}
use Rattle.std.proofs.lemmas.Result.{err_from_is_err_and}
use Rattle.rx_net.specs.declared.net.Job.{Job}
use Rattle.rx_net.specs.declared.fault.NetFault.{NetFault}
use Rattle.rx_net.specs.Cells.{input_cells}
use Rattle.rx_net.specs.Legal.{InTurn, WithinLimits}
use Rattle.rx_net.specs.Faults.{TellsFault, fault_of}
use Rattle.rx_net.proofs.Faults.{passed_on}
use Rattle.rx_net.proofs.NoFault.{answer_ok, ok_exactly, within, limit_stops, jobs_stop, outputs_left}
use Rattle.rx_net.proofs.Limits.{few_input_cells}
use Rattle.rx_net.proofs.legality.legal.Goals as goal

pub returns-in_err-check_limits-clause-exact : goal.returns-in_err-check_limits-clause-exact
returns-in_err-check_limits-clause-exact c =
    let p = err_from_is_err_and c.from_residual.result c.from_residual.ensures.1 in
    answer_ok c.from_residual.result (fault_of c.args.net.now) (passed_on c.from_residual.result p.0 _ _ p.1 p.2 (limit_stops c.args.net.now c.as_slice-inputs.result.now c.as_slice-jobs.result.now c.as_slice.result.now c.as_slice-inputs.ensures c.as_slice-jobs.ensures c.as_slice.ensures _ c.in_err-check_limits.ensures))

pub returns-in_err-check_limits-clause-legal : goal.returns-in_err-check_limits-clause-legal
returns-in_err-check_limits-clause-legal c =
    let p = err_from_is_err_and c.from_residual.result c.from_residual.ensures.1 in
    ok_exactly c.args.net.now c.from_residual.result (passed_on c.from_residual.result p.0 _ _ p.1 p.2 (limit_stops c.args.net.now c.as_slice-inputs.result.now c.as_slice-jobs.result.now c.as_slice.result.now c.as_slice-inputs.ensures c.as_slice-jobs.ensures c.as_slice.ensures _ c.in_err-check_limits.ensures))

pub check_jobs-requires-clause-space : goal.check_jobs-requires-clause-space
check_jobs-requires-clause-space c = (within c.args.net.now c.as_slice-inputs.result.now c.as_slice-jobs.result.now c.as_slice.result.now c.as_slice-inputs.ensures c.as_slice-jobs.ensures c.as_slice.ensures c.in_ok-check_limits.ensures).space

pub check_jobs-requires-clause-few_cells : goal.check_jobs-requires-clause-few_cells
check_jobs-requires-clause-few_cells c =
    let w : WithinLimits c.args.net.now = within c.args.net.now c.as_slice-inputs.result.now c.as_slice-jobs.result.now c.as_slice.result.now c.as_slice-inputs.ensures c.as_slice-jobs.ensures c.as_slice.ensures c.in_ok-check_limits.ensures in
    let e = ap (input_cells c.args.net.now.space) c.as_slice-inputs.ensures in
    omega (arith, few_input_cells c.args.net.now w)

pub check_jobs-requires-clause-few_jobs : goal.check_jobs-requires-clause-few_jobs
check_jobs-requires-clause-few_jobs c =
    let w : WithinLimits c.args.net.now = within c.args.net.now c.as_slice-inputs.result.now c.as_slice-jobs.result.now c.as_slice.result.now c.as_slice-inputs.ensures c.as_slice-jobs.ensures c.as_slice.ensures c.in_ok-check_limits.ensures in
    subst (λ (js : List Job). length js ≤ 65536) (sym c.as_slice-jobs.ensures) w.few_jobs

pub check_jobs-requires-clause-few_terms : goal.check_jobs-requires-clause-few_terms
check_jobs-requires-clause-few_terms c =
    let w : WithinLimits c.args.net.now = within c.args.net.now c.as_slice-inputs.result.now c.as_slice-jobs.result.now c.as_slice.result.now c.as_slice-inputs.ensures c.as_slice-jobs.ensures c.as_slice.ensures c.in_ok-check_limits.ensures in
    subst (λ (js : List Job). InTurn (λ before (j : Job). length j.terms ≤ 16) [] js) (sym c.as_slice-jobs.ensures) w.few_terms

pub returns-in_err-check_jobs-clause-exact : goal.returns-in_err-check_jobs-clause-exact
returns-in_err-check_jobs-clause-exact c =
    let r = c.from_residual-in_err-check_jobs.result in
    let p = err_from_is_err_and r c.from_residual-in_err-check_jobs.ensures.1 in
    answer_ok r (fault_of c.args.net.now) (passed_on r p.0 _ _ p.1 p.2 (jobs_stop c.args.net.now c.as_slice-inputs.result.now c.as_slice-jobs.result.now c.as_slice.result.now c.as_slice-inputs.ensures c.as_slice-jobs.ensures c.as_slice.ensures _ c.in_ok-check_limits.ensures c.in_err-check_jobs.ensures))

pub returns-in_err-check_jobs-clause-legal : goal.returns-in_err-check_jobs-clause-legal
returns-in_err-check_jobs-clause-legal c =
    let r = c.from_residual-in_err-check_jobs.result in
    let p = err_from_is_err_and r c.from_residual-in_err-check_jobs.ensures.1 in
    ok_exactly c.args.net.now r (passed_on r p.0 _ _ p.1 p.2 (jobs_stop c.args.net.now c.as_slice-inputs.result.now c.as_slice-jobs.result.now c.as_slice.result.now c.as_slice-inputs.ensures c.as_slice-jobs.ensures c.as_slice.ensures _ c.in_ok-check_limits.ensures c.in_err-check_jobs.ensures))

pub check_outputs-requires : goal.check_outputs-requires
check_outputs-requires c = within c.args.net.now c.as_slice-inputs.result.now c.as_slice-jobs.result.now c.as_slice.result.now c.as_slice-inputs.ensures c.as_slice-jobs.ensures c.as_slice.ensures c.in_ok-check_limits.ensures

pub returns-clause-exact : goal.returns-clause-exact
returns-clause-exact c =
    answer_ok c.check_outputs.result (fault_of c.args.net.now)
    (subst (λ (f : Option NetFault). TellsFault c.check_outputs.result f) (outputs_left c.args.net.now c.as_slice-inputs.result.now c.as_slice-jobs.result.now c.as_slice.result.now c.as_slice-inputs.ensures c.as_slice-jobs.ensures c.as_slice.ensures c.in_ok-check_limits.ensures c.in_ok-check_jobs.ensures) c.check_outputs.ensures)

pub returns-clause-legal : goal.returns-clause-legal
returns-clause-legal c =
    ok_exactly c.args.net.now c.check_outputs.result
    (subst (λ (f : Option NetFault). TellsFault c.check_outputs.result f) (outputs_left c.args.net.now c.as_slice-inputs.result.now c.as_slice-jobs.result.now c.as_slice.result.now c.as_slice-inputs.ensures c.as_slice-jobs.ensures c.as_slice.ensures c.in_ok-check_limits.ensures c.in_ok-check_jobs.ensures) c.check_outputs.ensures)
