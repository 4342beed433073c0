use Rattle.std.proofs.Common.{◌≡◌}
use Rattle.rx_client.proofs.Items.{line_blocks_to}
use Rattle.rx_client.proofs.fresh_items.Encryption.item.Given as goal

abbrev pub invariant-loop-i : goal.invariant-loop-i
invariant-loop-i l = l.blocks.items ≡ line_blocks_to l.self.p.now l.self.key.now l.self.mask_seed.now l.self.noise_seed.now l.number l.line l.i
