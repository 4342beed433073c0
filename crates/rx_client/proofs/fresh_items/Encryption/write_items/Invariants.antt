use Rattle.rx_client.proofs.Items.{HasWritten}
use Rattle.rx_client.proofs.fresh_items.Encryption.write_items.Given as goal

abbrev pub invariant-loop-line : goal.invariant-loop-line
invariant-loop-line l =
    HasWritten l.self.p.now l.self.key.now l.self.mask_seed.now l.self.noise_seed.now l.lines l.line-index l.number l.fn.file l.file
