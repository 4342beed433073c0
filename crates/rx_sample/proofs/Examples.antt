-- The first draws of the sample of 1, computed by the definitions.
use Rattle.std.proofs.Common.{◌≡◌, ◌/◌, ◌^◌, refl}
use Rattle.rx_sample.specs.Draws.{state_after, drawn}

first_state : state_after 1 1 ≡ 7806831264735756412
unfolding state_after
first_state = refl

shifted : state_after 1 1 / 2 ^ 33 ≡ 908834774
unfolding state_after
shifted = refl

first_draw : drawn 1 0 65536 ≡ 47062
unfolding state_after
first_draw = refl
