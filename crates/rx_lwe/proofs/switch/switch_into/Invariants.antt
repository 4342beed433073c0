use Rattle.std.proofs.Common.{◌+◌}
use Rattle.rx_laws.specs.Words.{of_words, AreWords}
use Rattle.rx_lwe.proofs.Switched.{less, body_alone, digit_rows}
use Rattle.rx_lwe.proofs.switch.switch_into.Given as goal

abbrev pub invariant-loop-u : goal.invariant-loop-u
invariant-loop-u l =
    AreWords (l.key.small + 1) (less l.u (body_alone l.key.small (of_words l.input l.key.big)) (digit_rows l.key l.input)) l.out
