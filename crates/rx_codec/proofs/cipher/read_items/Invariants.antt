use Rattle.std.proofs.Common.{◌≡◌, ◌-◌, []}
use Rattle.rx_codec.specs.CipherFile.{items_at}
use Rattle.rx_codec.proofs.cipher.read_items.Given as goal

abbrev pub invariant-loop : goal.invariant-loop
invariant-loop l = record {
  file : l.reader.file ≡ l.fn.reader.file;
  rest : items_at l.size l.params (l.count - l.counter) l.items.items l.reader.file l.reader.at ≡ items_at l.size l.params l.count [] l.fn.reader.file l.fn.reader.at;
}
