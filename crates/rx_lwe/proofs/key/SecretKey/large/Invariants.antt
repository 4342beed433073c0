use Rattle.rx_lwe.specs.Secret.{key_bit}
use Rattle.rx_lwe.proofs.Keys.{HasRows}
use Rattle.rx_lwe.proofs.key.SecretKey.large.Given as goal

abbrev pub invariant-loop-row : goal.invariant-loop-row
invariant-loop-row l = HasRows l.p.poly_size l.row (key_bit l.seed) l.bits.items
