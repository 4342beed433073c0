use Rattle.std.proofs.Common.{◌≡◌}
use Rattle.std.specs.Prelude.{All}
use Rattle.rx_crew.proofs.run.other_kernels.Given as goal

abbrev pub invariant-loop-worker : goal.invariant-loop-worker
invariant-loop-worker g l = All (λ made. made.kernel ≡ record { key = l.key; runs = 0 }) l.kernels.items
