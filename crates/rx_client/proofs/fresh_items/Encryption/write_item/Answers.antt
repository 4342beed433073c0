use Rattle.std.proofs.Common.{refl}
use Rattle.rx_codec.specs.NamedFields.{named_bytes}
use Rattle.rx_client.proofs.Items.{blocks_to-more}
use Rattle.rx_client.proofs.fresh_items.Encryption.write_item.Goals as goal

pub loop-i-preserved : goal.loop-i-preserved
loop-i-preserved c =
    let line = c.args.line.now in
    blocks_to-more c.args.self.now.p.now c.args.self.now.key.now c.args.self.now.mask_seed.now c.args.self.now.noise_seed.now c.args.number line c.loop-i.i
    c.args.file.now (named_bytes line.name line.kind line.bits) c.loop-i.file c.write_block.new.file _ c.loop-i.invariant c.in_ok-write_block.ensures
    refl
