use Rattle.std.proofs.Common.{arith}
use Rattle.rx_seeded.proofs.SeededCiphers.{if_accepted, if_few, if_items}
use Rattle.rx_seeded.proofs.cipher.read_bodies.Goals as goal

pub returns-clause-accepted : goal.returns-clause-accepted
returns-clause-accepted c =
    if_accepted c.args.bytes.now c.read_fields.result (λ i. omega (arith, c.type_inv.bytes i)) c.read_fields.ensures

pub returns-clause-count : goal.returns-clause-count
returns-clause-count c = if_few c.args.bytes.now c.read_fields.result (λ i. omega (arith, c.type_inv.bytes i)) c.read_fields.ensures

pub returns-clause-items : goal.returns-clause-items
returns-clause-items c = if_items c.args.bytes.now c.read_fields.result (λ i. omega (arith, c.type_inv.bytes i)) c.read_fields.ensures
