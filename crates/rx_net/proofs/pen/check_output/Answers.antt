use Rattle.std.proofs.lemmas.Result.{err_from_is_err_and}
use Rattle.rx_net.proofs.Faults.{passed_on}
use Rattle.rx_net.proofs.Additions.{output_many, output_fine, output_wrong}
use Rattle.rx_net.proofs.pen.check_output.Goals as goal

pub returns-in_err-check_limit : goal.returns-in_err-check_limit
returns-in_err-check_limit c =
    let p = err_from_is_err_and c.from_residual.result c.from_residual.ensures.1 in
    passed_on c.from_residual.result p.0 _ _ p.1 p.2 (output_many c.args.net.now c.requires c.args.output.now c.as_slice-outputs.result.now c.as_slice-outputs.ensures _ c.in_err-check_limit.ensures)

pub returns-then-is_output : goal.returns-then-is_output
returns-then-is_output c = output_fine c.args.net.now c.requires c.args.output.now c.as_slice-outputs.result.now c.as_slice-outputs.ensures c.in_ok-check_limit.ensures c.is_output.result c.is_output.ensures c.if-is_output.true

pub returns-else-is_output : goal.returns-else-is_output
returns-else-is_output c = output_wrong c.args.net.now c.requires c.args.output.now c.as_slice-outputs.result.now c.as_slice-outputs.ensures c.in_ok-check_limit.ensures c.is_output.result c.is_output.ensures c.if-is_output.false
