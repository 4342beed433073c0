use Rattle.std.proofs.Common.{refl}
use Rattle.rx_params.specs.Derived.{round_of}
use Rattle.rx_params.proofs.bounds.round.Goals as goal

pub returns-clause-value : goal.returns-clause-value
unfolding round_of
returns-clause-value c = rw (c.from.ensures, c.two_to.ensures.value, c.from-2.ensures) refl
