use Rattle.std.proofs.Common.{◌≡◌, ◌*◌, ◌++◌, string_bytes}
use Rattle.rx_sample.specs.Draws.{state_after}
use Rattle.rx_sample.specs.Samples.{texts_below, drawn_line}
use Rattle.rx_sample.proofs.sample.put_operations.Given as goal

abbrev pub invariant-loop-place : goal.invariant-loop-place
invariant-loop-place l = record {
  draws : l.draws ≡ state_after l.fn.draws (3 * l.place);
  text : string_bytes l.text ≡ string_bytes l.fn.text ++ texts_below (drawn_line l.fn.draws) l.place;
}
