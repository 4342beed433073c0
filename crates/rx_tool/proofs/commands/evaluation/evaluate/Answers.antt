use Rattle.std.proofs.Common.{ap, subst, sym}
use Rattle.rx_params.specs.Acceptance.{Accepts}
use Rattle.rx_boot.specs.ServerKeys.{ServerWords}
use Rattle.rx_codec.specs.CipherFile.{IsWritable}
use Rattle.rx_codec.proofs.Ciphers.{writable}
use Rattle.rx_tool.proofs.EvaluatedBlocks.{are_inputs}
use Rattle.rx_tool.proofs.NetRuns.{outputs_fit, outputs_made}
use Rattle.rx_tool.proofs.commands.evaluation.evaluate.Goals as goal

pub run_net-requires-clause-inputs : goal.run_net-requires-clause-inputs
run_net-requires-clause-inputs g c lifetimes well_formed = are_inputs c.args.key.now.params c.args.net.now c.args.inputs.now c.requires.inputs

pub returns-clause-outputs : goal.returns-clause-outputs
returns-clause-outputs g c =
    outputs_made c.args.key.now c.args.net.now c.key.inside.params c.args.inputs.now c.in_ok-report.report.outputs.items c.from_vec-outputs.result
    c.as_slice.result.now c.in_ok-items.items (ap (λ (k : ServerWords). k.params) c.key.view_is) c.as_slice.ensures c.in_ok-report.ensures.outputs c.from_vec-outputs.ensures
    c.in_ok-items.ensures.of_cells

pub returns-clause-writable : goal.returns-clause-writable
returns-clause-writable g c =
    subst IsWritable (sym (returns-clause-outputs g c))
    (writable _ (outputs_fit c.args.key.now c.args.net.now c.args.inputs.now c.server_laws.ensures (subst Accepts (ap (λ (k : ServerWords). k.params) c.key.view_is) c.key.invariant.0)
    c.requires.space c.requires.net c.requires.inputs))
