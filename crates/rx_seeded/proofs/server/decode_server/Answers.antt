use Rattle.std.proofs.Common.{arith}
use Rattle.rx_boot.proofs.SeededKeys.{seeded_key_laws}
use Rattle.rx_seeded.proofs.EitherVersion.{any_server_found, any_server_only}
use Rattle.rx_seeded.proofs.server.decode_server.Goals as goal

pub returns-clause-found : goal.returns-clause-found
returns-clause-found c =
    any_server_found seeded_key_laws c.args.bytes.now c.read_server.result (λ i. omega (arith, c.type_inv.bytes i)) c.read_server.ensures.exact

pub returns-clause-only : goal.returns-clause-only
returns-clause-only c = λ key file. any_server_only seeded_key_laws c.args.bytes.now c.read_server.result key c.read_server.ensures.exact file
