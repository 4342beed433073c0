use Rattle.std.proofs.Common.{◌∙◌}
use Rattle.rx_meaning.proofs.Known.{known}
use Rattle.rx_meaning.proofs.Sums.{jobs_are}
use Rattle.rx_meaning.proofs.bounds.job_bound.Goals as goal

pub total_jobs-requires : goal.total_jobs-requires
total_jobs-requires c =
    known c.args.circuit.now c.space.result c.lines.result.now c.steps.result.now c.space.ensures.lawful c.space.ensures.value c.lines.ensures.value c.steps.ensures.value

pub returns : goal.returns
returns c =
    c.total_jobs.ensures
    ∙ jobs_are c.args.circuit.now c.space.result c.lines.result.now c.steps.result.now c.space.ensures.value c.lines.ensures.value c.steps.ensures.value
