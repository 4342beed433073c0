use Rattle.std.proofs.Common.{arith}
use Rattle.rx_codec.proofs.Nets.{net_found, net_only}
use Rattle.rx_codec.proofs.net_file.decode_net.Goals as goal

pub returns-clause-found : goal.returns-clause-found
returns-clause-found c = net_found c.net_laws.ensures c.args.bytes.now c.read_net.result (λ i. omega (arith, c.type_inv.bytes i)) c.read_net.ensures

pub returns-clause-only : goal.returns-clause-only
returns-clause-only c = λ net file. net_only c.net_laws.ensures c.args.bytes.now c.read_net.result net c.read_net.ensures file
