use Rattle.std.proofs.Common.{◌≡◌, ◌-◌, []}
use Rattle.rx_codec.specs.Reading.{many_at}
use Rattle.std.specs.Int.{w32}
use Rattle.rx_codec.specs.Reading.{number_at}
use Rattle.rx_codec.proofs.net_reading.read_cells.Given as goal

abbrev pub invariant-loop : goal.invariant-loop
invariant-loop l = record {
  file : l.reader.file ≡ l.fn.reader.file;
  rest : many_at (λ before. number_at w32) (l.count - l.counter) l.cells.items l.reader.file l.reader.at ≡ many_at (λ before. number_at w32) l.count [] l.fn.reader.file l.fn.reader.at;
}
