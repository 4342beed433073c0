use Rattle.std.proofs.Common.{◌≡◌, ◌≤◌, ◌*◌, ◌++◌, drop}
use Rattle.rx_seeded.specs.SeededCipher.{full_items as items_filled}
use Rattle.rx_seeded.proofs.filling.full_items.Given as goal

abbrev pub invariant-loop-item : goal.invariant-loop-item
invariant-loop-item l = record {
  rest : l.items.items ++ items_filled l.p l.mask_seed l.number (drop l.item-index l.short) ≡ items_filled l.p l.mask_seed 0 l.short;
  numbers : l.number ≤ 64 * l.item-index;
}
