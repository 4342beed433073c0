use Rattle.std.proofs.Common.{arith}
use Rattle.rx_boot.proofs.SeededKeys.{seeded_key_laws}
use Rattle.rx_seeded.proofs.EitherVersion.{seeded_server_found}
use Rattle.rx_seeded.proofs.server.decode_seeded_server.Goals as goal

pub returns-clause-found : goal.returns-clause-found
returns-clause-found c =
    seeded_server_found seeded_key_laws c.args.bytes.now c.read_seeded.result (λ i. omega (arith, c.type_inv.bytes i)) c.read_seeded.ensures.exact
