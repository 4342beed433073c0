use Rattle.std.proofs.Common.{arith}
use Rattle.rx_seeded.proofs.EitherVersion.{seeded_cipher_found}
use Rattle.rx_seeded.proofs.cipher.decode_seeded_cipher.Goals as goal

pub returns-clause-found : goal.returns-clause-found
returns-clause-found c =
    seeded_cipher_found c.args.bytes.now c.read_seeded.result (λ i. omega (arith, c.type_inv.bytes i)) c.read_seeded.ensures
