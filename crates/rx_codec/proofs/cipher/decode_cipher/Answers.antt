use Rattle.std.proofs.Common.{arith}
use Rattle.rx_codec.proofs.Ciphers.{cipher_found, cipher_only}
use Rattle.rx_codec.proofs.cipher.decode_cipher.Goals as goal

pub returns-clause-found : goal.returns-clause-found
returns-clause-found c = cipher_found c.args.bytes.now c.read_cipher.result (λ i. omega (arith, c.type_inv.bytes i)) c.read_cipher.ensures

pub returns-clause-only : goal.returns-clause-only
returns-clause-only c = λ cipher file. cipher_only c.args.bytes.now c.read_cipher.result cipher c.read_cipher.ensures file
