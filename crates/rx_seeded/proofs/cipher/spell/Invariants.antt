use Rattle.std.proofs.Common.{◌≡◌, ◌++◌, length, take, map}
use Rattle.std.specs.List.{flat_map}
use Rattle.rx_codec.specs.CipherFile.{item_bytes}
use Rattle.rx_codec.proofs.Named.{AreUpto}
use Rattle.rx_codec.proofs.Ciphers.{IsNamed}
use Rattle.rx_seeded.specs.SeededCipher.{seeded_cipher_head, short_item}
use Rattle.rx_seeded.proofs.cipher.spell.Given as goal

abbrev pub invariant-loop-item : goal.invariant-loop-item
invariant-loop-item l = record {
  text : l.file
      ≡ seeded_cipher_head l.value.params l.mask_seed (length l.value.items)
      ++ flat_map item_bytes (map (short_item l.value.params) (take l.item-index l.value.items));
  named : AreUpto IsNamed l.item-index l.value.items;
}
