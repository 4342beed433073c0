use Rattle.std.proofs.Common.{◌≡◌, ◌++◌, take}
use Rattle.std.specs.List.{flat_map}
use Rattle.rx_codec.specs.CipherFile.{block_bytes}
use Rattle.rx_codec.specs.NamedFields.{named_bytes}
use Rattle.rx_codec.proofs.cipher.write_item.Given as goal

abbrev pub invariant-loop-block : goal.invariant-loop-block
invariant-loop-block l =
    l.file
    ≡ l.fn.file ++ named_bytes l.item.name l.item.kind l.item.bits ++ flat_map block_bytes (take l.block-index l.item.blocks)
