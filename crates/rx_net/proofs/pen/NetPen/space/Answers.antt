use Rattle.std.proofs.Common.{subst}
use Rattle.rx_net.specs.declared.net.Net.{Net}
use Rattle.rx_net.specs.Legal.{IsBounded}
use Rattle.rx_net.proofs.Bounded.{bounded_from_legal}
use Rattle.rx_net.proofs.pen.NetPen.space.Goals as goal

pub returns-clause-bounded : goal.returns-clause-bounded
returns-clause-bounded c = subst (λ (net : Net). IsBounded net) c.self.view_is (bounded_from_legal c.self.inside.net c.self.invariant.legal)
