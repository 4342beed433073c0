use Rattle.std.proofs.Common.{[]}
use Rattle.rx_net.specs.Cells.{cell_count, degree}
use Rattle.rx_codec.proofs.Nets.{inputs_short, jobs_short, outputs_short}
use Rattle.rx_codec.proofs.net_file.encode_net.Goals as goal

pub write_inputs-requires-clause-short : goal.write_inputs-requires-clause-short
write_inputs-requires-clause-short c =
    let net = c.args.value.now in
    rw c.as_slice.ensures (inputs_short net.space [] net.inputs c.requires.limits.inputs)

pub write_jobs-requires-clause-short : goal.write_jobs-requires-clause-short
write_jobs-requires-clause-short c = rw c.as_slice-2.ensures (jobs_short [] c.args.value.now.jobs c.requires.limits.few_terms)

pub write_outputs-requires-clause-short : goal.write_outputs-requires-clause-short
write_outputs-requires-clause-short c =
    let net = c.args.value.now in
    rw c.as_slice-3.ensures (outputs_short net.space (cell_count net) (degree net) [] net.outputs c.requires.outputs)
