use Rattle.rx_client.proofs.Numbers.{HasRead}
use Rattle.rx_client.proofs.decrypt.item_number.Given as goal

abbrev pub invariant-loop-place : goal.invariant-loop-place
invariant-loop-place l = HasRead l.p l.key l.item l.place l.number
