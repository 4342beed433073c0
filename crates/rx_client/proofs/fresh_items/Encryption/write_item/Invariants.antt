use Rattle.std.proofs.Common.{◌≡◌, ◌++◌}
use Rattle.rx_codec.specs.NamedFields.{named_bytes}
use Rattle.rx_client.proofs.Items.{blocks_to}
use Rattle.rx_client.proofs.fresh_items.Encryption.write_item.Given as goal

abbrev pub invariant-loop-i : goal.invariant-loop-i
invariant-loop-i l =
    l.file
    ≡ l.fn.file
    ++ (named_bytes l.line.name l.line.kind l.line.bits ++ blocks_to l.self.p.now l.self.key.now l.self.mask_seed.now l.self.noise_seed.now l.number l.line l.i)
