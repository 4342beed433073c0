use Rattle.std.proofs.Common.{◌≡◌, List, subst, sym}
use Rattle.rx_net.specs.declared.net.Net.{Net}
use Rattle.rx_net.specs.declared.net.NetInput.{NetInput}
use Rattle.rx_net.specs.Named.{IsNet}
use Rattle.rx_net.specs.Pen.{with_input}
use Rattle.rx_net.proofs.NoFault.{legal_from_none}
use Rattle.rx_net.proofs.Named.{input_named}
use Rattle.rx_net.proofs.pen.NetPen.input.Goals as goal

net_at : (net : Net) (is : List NetInput) → IsNet (record net { inputs = is }) → (js : List NetInput) → js ≡ is → IsNet (record net { inputs = js })
net_at net is l js e = subst (λ (is : List NetInput). IsNet (record net { inputs = is })) (sym e) l

pub invariant_of-self : goal.invariant_of-self
invariant_of-self c = net_at c.self.inside.net c.self.inside.net.inputs c.self.invariant c.push.new.self c.in_err-push.ensures.err

pub invariant_of-self-2 : goal.invariant_of-self-2
invariant_of-self-2 c =
    let old : Net = c.self.inside.net in
    let new : Net = with_input old c.args.input in
    net_at old new.inputs (input_named old c.args.input c.self.invariant c.as_bytes.ensures.name (legal_from_none new c.in_ok-check_input.ensures)) c.push.new.self c.in_ok-push.ensures.ok
