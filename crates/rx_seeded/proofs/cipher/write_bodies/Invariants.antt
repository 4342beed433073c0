use Rattle.std.proofs.Common.{◌≡◌, ◌++◌, take, map}
use Rattle.std.specs.List.{flat_map}
use Rattle.rx_codec.specs.CipherFile.{block_bytes}
use Rattle.rx_codec.specs.NamedFields.{named_bytes}
use Rattle.rx_seeded.specs.SeededCipher.{short_block}
use Rattle.rx_seeded.proofs.cipher.write_bodies.Given as goal

abbrev pub invariant-loop-block : goal.invariant-loop-block
invariant-loop-block l =
    l.file
    ≡ l.fn.file ++ named_bytes l.item.name l.item.kind l.item.bits
    ++ flat_map block_bytes (map (short_block l.p) (take l.block-index l.item.blocks))
