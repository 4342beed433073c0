use Rattle.rx_bits.proofs.ToldDigits.{Told}
use Rattle.rx_bits.proofs.constants.digits_of.Given as goal

abbrev pub invariant-loop : goal.invariant-loop
invariant-loop l = Told l.space l.number l.counter l.digits.items l.rest
