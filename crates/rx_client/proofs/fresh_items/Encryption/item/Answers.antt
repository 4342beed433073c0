use Rattle.std.proofs.Common.{sym}
use Rattle.rx_client.proofs.Items.{line_blocks_to-more}
use Rattle.rx_client.proofs.fresh_items.Encryption.item.Goals as goal

pub loop-i-preserved : goal.loop-i-preserved
loop-i-preserved c =
    line_blocks_to-more c.args.self.now.p.now c.args.self.now.key.now c.args.self.now.mask_seed.now c.args.self.now.noise_seed.now c.args.number c.args.line.now c.loop-i.i
    c.loop-i.blocks.items c.push.new.self.items c.in_ok-block.block c.loop-i.invariant c.in_ok-push.ensures.items (sym c.in_ok-block.ensures)
