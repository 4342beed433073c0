use Rattle.std.proofs.Common.{arith}
use Rattle.rx_codec.proofs.Servers.{server_found, server_only}
use Rattle.rx_codec.proofs.server.decode_server.Goals as goal

pub returns-clause-found : goal.returns-clause-found
returns-clause-found c = server_found c.args.bytes.now c.read_server.result (λ i. omega (arith, c.type_inv.bytes i)) c.read_server.ensures.exact

pub returns-clause-only : goal.returns-clause-only
returns-clause-only c = λ key file. server_only c.args.bytes.now c.read_server.result key c.read_server.ensures.exact file
