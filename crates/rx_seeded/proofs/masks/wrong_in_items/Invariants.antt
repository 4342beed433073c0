use Rattle.std.proofs.Common.{◌≡◌, ◌≤◌, ◌+◌, ◌*◌, ◌^◌, drop}
use Rattle.rx_seeded.specs.SeededCipher.{wrong_in_items as wrong_among_items}
use Rattle.rx_seeded.proofs.masks.wrong_in_items.Given as goal

abbrev pub invariant-loop-item : goal.invariant-loop-item
invariant-loop-item l = record {
  rest : wrong_among_items l.p l.mask_seed l.number l.place (drop l.item-index l.items) ≡ wrong_among_items l.p l.mask_seed 0 l.at l.items;
  numbers : l.number ≤ 64 * l.item-index;
  places : l.place ≤ l.at + 2 ^ 24 * l.item-index;
}
