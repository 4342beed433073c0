use Rattle.rx_client.proofs.Items.{HasMade}
use Rattle.rx_client.proofs.fresh_items.Encryption.items.Given as goal

abbrev pub invariant-loop-line : goal.invariant-loop-line
invariant-loop-line l =
    HasMade l.self.p.now l.self.key.now l.self.mask_seed.now l.self.noise_seed.now l.lines l.line-index l.number l.items.items
