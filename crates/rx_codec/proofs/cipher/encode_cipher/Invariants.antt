use Rattle.std.proofs.Common.{◌≡◌, ◌++◌, length, take}
use Rattle.std.specs.List.{flat_map}
use Rattle.rx_codec.specs.CipherFile.{cipher_head, item_bytes}
use Rattle.rx_codec.proofs.Named.{AreUpto}
use Rattle.rx_codec.proofs.Ciphers.{IsNamed}
use Rattle.rx_codec.proofs.cipher.encode_cipher.Given as goal

abbrev pub invariant-loop-item : goal.invariant-loop-item
invariant-loop-item l = record {
  text : l.file ≡ cipher_head l.value.params (length l.value.items) ++ flat_map item_bytes (take l.item-index l.value.items);
  named : AreUpto IsNamed l.item-index l.value.items;
}
