use Rattle.std.proofs.Common.{◌≡◌, ◌++◌, string_bytes}
use Rattle.rx_sample.specs.Draws.{state_after}
use Rattle.rx_sample.specs.Samples.{texts_below, value_line}
use Rattle.rx_sample.proofs.sample.put_values.Given as goal

abbrev pub invariant-loop-place : goal.invariant-loop-place
invariant-loop-place l = record {
  text : string_bytes l.text ≡ string_bytes l.fn.text ++ texts_below (value_line l.fn.draws) l.place;
  draws : l.draws ≡ state_after l.fn.draws l.place;
}
