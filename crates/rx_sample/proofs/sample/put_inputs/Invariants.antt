use Rattle.std.proofs.Common.{◌≡◌, ◌++◌, string_bytes}
use Rattle.rx_sample.specs.Samples.{texts_below, input_line}
use Rattle.rx_sample.proofs.sample.put_inputs.Given as goal

abbrev pub invariant-loop-place : goal.invariant-loop-place
invariant-loop-place l = string_bytes l.text ≡ string_bytes l.fn.text ++ texts_below input_line l.place
