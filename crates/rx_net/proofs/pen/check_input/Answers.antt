use Rattle.std.proofs.Common.{subst, Option}
use Rattle.std.proofs.lemmas.Result.{err_from_is_err_and}
use Rattle.rx_net.specs.declared.fault.NetFault.{NetFault}
use Rattle.rx_net.specs.Faults.{TellsFault}
use Rattle.rx_net.proofs.Faults.{passed_on}
use Rattle.rx_net.proofs.Additions.{input_many, input_tested}
use Rattle.rx_net.proofs.pen.check_input.Goals as goal

pub returns-in_err-check_limit : goal.returns-in_err-check_limit
returns-in_err-check_limit c =
    let p = err_from_is_err_and c.from_residual.result c.from_residual.ensures.1 in
    passed_on c.from_residual.result p.0 _ _ p.1 p.2 (input_many c.args.net.now c.args.input.now c.requires.legal c.requires.first c.as_slice-inputs.result.now c.as_slice-inputs.ensures _ c.in_err-check_limit.ensures)

pub returns : goal.returns
returns c =
    subst (λ (f : Option NetFault). TellsFault c.check_limit-2.result f) (input_tested c.args.net.now c.args.input.now c.requires.legal c.requires.first c.as_slice-inputs.result.now c.as_slice-inputs.ensures c.in_ok-check_limit.ensures c.is_input.result c.is_input.ensures) c.check_limit-2.ensures
