use Rattle.std.proofs.Common.{◌≡◌, ◌++◌, length, take}
use Rattle.std.specs.Int.{w32, to_le_bytes}
use Rattle.std.specs.List.{flat_map}
use Rattle.rx_codec.specs.NetFile.{job_bytes}
use Rattle.rx_codec.proofs.net_writing.write_jobs.Given as goal

abbrev pub invariant-loop-job : goal.invariant-loop-job
invariant-loop-job l =
    l.out.items ≡ l.fn.out.items ++ (to_le_bytes w32 (length l.jobs) ++ flat_map job_bytes (take l.job-index l.jobs))
