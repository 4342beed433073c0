use Rattle.std.proofs.Common.{◌≡◌, ◌+◌, ◌*◌, ◌^◌, ◌≤◌, drop}
use Rattle.rx_meaning.specs.Bounds.{costs_of}
use Rattle.rx_meaning.proofs.Sums.{jobs_in}
use Rattle.rx_meaning.proofs.bounds.total_jobs.Given as goal

abbrev pub invariant-loop-place : goal.invariant-loop-place
invariant-loop-place l =
    (l.jobs + jobs_in (costs_of l.space l.steps (drop l.place l.lines) (drop l.place l.steps)) ≡ jobs_in (costs_of l.space l.steps l.lines l.steps))
    × (l.jobs ≤ 2 ^ 34 * l.place)
