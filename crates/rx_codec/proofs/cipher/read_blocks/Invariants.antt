use Rattle.std.proofs.Common.{◌≡◌, ◌-◌, []}
use Rattle.rx_codec.specs.CipherFile.{blocks_at}
use Rattle.rx_codec.proofs.cipher.read_blocks.Given as goal

abbrev pub invariant-loop : goal.invariant-loop
invariant-loop l = record {
  file : l.reader.file ≡ l.fn.reader.file;
  rest : blocks_at l.size l.params l.kind (l.count - l.counter) l.blocks.items l.reader.file l.reader.at ≡ blocks_at l.size l.params l.kind l.count [] l.fn.reader.file l.fn.reader.at;
}
