use Rattle.std.proofs.Common.{◌≡◌, List, subst, sym}
use Rattle.rx_net.specs.declared.net.Net.{Net}
use Rattle.rx_net.specs.declared.net.NetOutput.{NetOutput}
use Rattle.rx_net.specs.Named.{IsNet}
use Rattle.rx_net.specs.Pen.{with_output}
use Rattle.rx_net.proofs.NoFault.{legal_from_none}
use Rattle.rx_net.proofs.Named.{output_named}
use Rattle.rx_net.proofs.pen.NetPen.output.Goals as goal

net_at : (net : Net) (os : List NetOutput) → IsNet (record net { outputs = os }) → (new : List NetOutput) → new ≡ os → IsNet (record net { outputs = new })
net_at net os l new e = subst (λ (os : List NetOutput). IsNet (record net { outputs = os })) (sym e) l

pub invariant_of-self : goal.invariant_of-self
invariant_of-self c = net_at c.self.inside.net c.self.inside.net.outputs c.self.invariant c.push.new.self c.in_err-push.ensures.err

pub invariant_of-self-2 : goal.invariant_of-self-2
invariant_of-self-2 c =
    let old : Net = c.self.inside.net in
    net_at old _ (output_named old _ c.self.invariant c.as_bytes.ensures.name (legal_from_none (with_output old _) c.in_ok-check_output.ensures)) c.push.new.self c.in_ok-push.ensures.ok
