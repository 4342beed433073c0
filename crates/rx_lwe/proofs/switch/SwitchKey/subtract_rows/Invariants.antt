use Rattle.std.proofs.Common.{◌*ℤ◌, ◌+◌}
use Rattle.rx_laws.specs.Words.{of_words, of_numbers, AreWords}
use Rattle.rx_lwe.specs.SwitchKeys.{switch_rows}
use Rattle.rx_lwe.proofs.Switched.{less}
use Rattle.rx_lwe.proofs.switch.SwitchKey.subtract_rows.Given as goal

abbrev pub invariant-loop-t : goal.invariant-loop-t
invariant-loop-t l =
    AreWords (l.self.small + 1)
    (less l.t (of_words l.initial.out) (λ t i. of_numbers l.digits t *ℤ switch_rows l.self l.u t i)) l.out
