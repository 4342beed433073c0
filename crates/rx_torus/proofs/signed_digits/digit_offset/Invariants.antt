use Rattle.std.proofs.Common.{◌≡◌}
use Rattle.rx_torus.specs.Offsets.{halves}
use Rattle.rx_torus.proofs.signed_digits.digit_offset.Given as goal

abbrev pub invariant-loop : goal.invariant-loop
invariant-loop l = l.sum ≡ halves l.base_log l.counter
