use Rattle.std.proofs.Common.{string_bytes}
use Rattle.rx_client.proofs.Lines.{HasLines}
use Rattle.rx_client.proofs.decrypt.decrypt_items.Given as goal

abbrev pub invariant-loop-item : goal.invariant-loop-item
invariant-loop-item l = HasLines l.p l.key l.items l.item-index (string_bytes l.lines)
