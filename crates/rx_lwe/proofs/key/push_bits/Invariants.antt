use Rattle.std.proofs.Common.{◌≡◌, ◌++◌, map}
use Rattle.std.specs.List.{range_with_len}
use Rattle.rx_torus.specs.Streams.{stream_of, drawn_by}
use Rattle.rx_torus.specs.Kinds.{stream_number}
use Rattle.rx_lwe.proofs.Keys.{stream_bit}
use Rattle.rx_lwe.proofs.key.push_bits.Given as goal

abbrev pub invariant-loop : goal.invariant-loop
invariant-loop l = record {
  stream : l.stream ≡ drawn_by l.counter (stream_of l.seed (stream_number l.fn.kind l.row));
  bits : l.bits.items ≡ l.fn.bits.items ++ map (stream_bit l.seed (stream_number l.fn.kind l.row)) (range_with_len 0 l.counter);
}
