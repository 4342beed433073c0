use Rattle.std.proofs.Common.{◌≡◌, ◌-◌, []}
use Rattle.rx_codec.specs.Reading.{many_at}
use Rattle.rx_codec.specs.NetFile.{term_at}
use Rattle.rx_codec.proofs.net_reading.read_each_term.Given as goal

abbrev pub invariant-loop : goal.invariant-loop
invariant-loop l = record {
  file : l.reader.file ≡ l.fn.reader.file;
  rest : many_at (λ before. term_at) (l.count - l.counter) l.terms.items l.reader.file l.reader.at ≡ many_at (λ before. term_at) l.count [] l.fn.reader.file l.fn.reader.at;
}
