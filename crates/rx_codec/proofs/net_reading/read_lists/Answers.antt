use Rattle.std.proofs.Common.{Ok, refl}
use Rattle.std.proofs.lemmas.Result.{err_from_is_err_and}
use Rattle.std.specs.Int.{w16}
use Rattle.rx_codec.specs.Reading.{list_at}
use Rattle.rx_codec.specs.NetFile.{output_at, lists_at}
use Rattle.rx_codec.proofs.Loops.{fails_then}
use Rattle.rx_codec.proofs.net_reading.read_lists.Goals as goal

pub returns-in_err-outputs-clause-value : goal.returns-in_err-outputs-clause-value
unfolding lists_at
returns-in_err-outputs-clause-value c =
    let p = err_from_is_err_and c.from_residual-in_err-outputs.result c.from_residual-in_err-outputs.ensures.1 in
    let jobs = rw c.in_ok-inputs.ensures.file at c.in_ok-jobs.ensures.value in
    let outputs = rw (c.in_ok-jobs.ensures.file, c.in_ok-inputs.ensures.file) at c.in_err-outputs.ensures.value in
    rw (c.in_ok-inputs.ensures.value, jobs, p.1, p.2)
    (fails_then c.in_err-outputs.field-0.0 (list_at w16 64 (output_at c.args.space) c.args.reader.now.file c.read_jobs.new.reader.at)
    (λ outputs. Ok (record { space = c.args.space; inputs = c.in_ok-inputs.inputs; jobs = c.in_ok-jobs.jobs; outputs = outputs.0 }, outputs.1))
    outputs)

pub returns-clause-value : goal.returns-clause-value
unfolding lists_at
returns-clause-value c =
    let jobs = rw c.in_ok-inputs.ensures.file at c.in_ok-jobs.ensures.value in
    let outputs = rw (c.in_ok-jobs.ensures.file, c.in_ok-inputs.ensures.file) at c.in_ok-outputs.ensures.value in
    rw (c.in_ok-inputs.ensures.value, jobs, outputs) refl
