use Rattle.rx_params.proofs.Refusals.{AreInside}
use Rattle.rx_params.proofs.bounds.check_fields.Given as goal

abbrev pub invariant-loop-place : goal.invariant-loop-place
invariant-loop-place l = AreInside l.value-items l.place
