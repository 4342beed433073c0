use Rattle.std.proofs.Common.{◌≡◌, ℕ, ℤ, ap, ◌∙◌, subst, arith, rules, Option}
use Rattle.std.specs.Prelude.{IfOk}
use Rattle.std.proofs.lemmas.Int.{to_z-of_z}
use Rattle.std.proofs.lemmas.Result.{err_from_is_err_and}
use mir.Syntax.{w16}
use mir.Val.{SFits, to_z, of_z}
use Rattle.rx_net.specs.declared.fault.NetFault.{NetFault}
use Rattle.rx_net.specs.Cells.{input_cells, degree}
use Rattle.rx_net.specs.Legal.{reached}
use Rattle.rx_net.specs.Faults.{TellsFault, new_fault}
use Rattle.rx_net.proofs.Faults.{passed_on}
use Rattle.rx_net.proofs.Limits.{few_input_cells}
use Rattle.rx_net.proofs.Additions.{job_many, job_long, job_tested, degrees_lent}
use Rattle.rx_net.proofs.pen.check_job.Goals as goal

pub returns-in_err-check_limit-clause-fault : goal.returns-in_err-check_limit-clause-fault
returns-in_err-check_limit-clause-fault c =
    let p = err_from_is_err_and c.from_residual.result c.from_residual.ensures.1 in
    passed_on c.from_residual.result p.0 _ _ p.1 p.2 (job_many c.args.net.now c.requires c.args.terms.now c.args.constant c.args.table.now c.as_slice-inputs.result.now c.as_slice-jobs.result.now c.as_slice-inputs.ensures c.as_slice-jobs.ensures _ c.in_err-check_limit.ensures)

pub returns-in_err-check_limit-2-clause-fault : goal.returns-in_err-check_limit-2-clause-fault
returns-in_err-check_limit-2-clause-fault c =
    let r = c.from_residual-in_err-check_limit-2.result in
    let p = err_from_is_err_and r c.from_residual-in_err-check_limit-2.ensures.1 in
    passed_on r p.0 _ _ p.1 p.2 (job_long c.args.net.now c.requires c.args.terms.now c.args.constant c.args.table.now c.as_slice-inputs.result.now c.as_slice-jobs.result.now c.as_slice-inputs.ensures c.as_slice-jobs.ensures c.in_ok-check_limit.ensures _ c.in_err-check_limit-2.ensures)

pub reach-requires-clause-few_cells : goal.reach-requires-clause-few_cells
reach-requires-clause-few_cells c = let e = ap (input_cells c.args.net.now.space) c.as_slice-inputs.ensures in omega (arith, few_input_cells c.args.net.now c.requires.limits)

pub returns-clause-fault : goal.returns-clause-fault
returns-clause-fault c =
    let fits : SFits w16 c.args.constant = search rules in
    let same = to_z-of_z w16 c.args.constant fits in
    subst (λ (f : Option NetFault). TellsFault c.reach.result f)
    (ap (λ k. new_fault c.args.net.now.space c.as_slice-inputs.result.now c.as_slice-jobs.result.now c.args.terms.now k c.args.table.now) same
    ∙ job_tested c.args.net.now c.requires c.args.terms.now c.args.constant c.args.table.now c.as_slice-inputs.result.now c.as_slice-jobs.result.now c.as_slice-inputs.ensures c.as_slice-jobs.ensures c.in_ok-check_limit.ensures c.in_ok-check_limit-2.ensures) c.reach.ensures.fault

pub returns-clause-degree : goal.returns-clause-degree
returns-clause-degree c =
    let fits : SFits w16 c.args.constant = search rules in
    let same = to_z-of_z w16 c.args.constant fits in
    subst (λ (k : ℤ). IfOk c.reach.result (λ (d : ℕ). d ≡ reached (degree c.args.net.now) c.args.terms.now k c.args.table.now)) same
    (subst (λ (d : ℕ → ℕ). IfOk c.reach.result (λ (r : ℕ). r ≡ reached d c.args.terms.now (to_z w16 (of_z w16 c.args.constant)) c.args.table.now)) (degrees_lent c.args.net.now c.requires c.args.terms.now c.args.constant c.args.table.now c.as_slice-inputs.result.now c.as_slice-jobs.result.now c.as_slice-inputs.ensures c.as_slice-jobs.ensures) c.reach.ensures.degree)
