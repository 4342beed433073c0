use Rattle.std.proofs.Common.{arith}
use Rattle.rx_seeded.proofs.EitherVersion.{any_cipher_found, any_cipher_only}
use Rattle.rx_seeded.proofs.cipher.decode_cipher.Goals as goal

pub returns-clause-found : goal.returns-clause-found
returns-clause-found c =
    any_cipher_found c.args.bytes.now c.read_cipher.result (λ i. omega (arith, c.type_inv.bytes i)) c.read_cipher.ensures

pub returns-clause-only : goal.returns-clause-only
returns-clause-only c = λ cipher file. any_cipher_only c.args.bytes.now c.read_cipher.result cipher c.read_cipher.ensures file
