use Rattle.std.proofs.Common.{◌≡◌, ◌++◌, string_bytes}
use Rattle.rx_sample.specs.Samples.{texts_below, output_line}
use Rattle.rx_sample.proofs.sample.put_outputs.Given as goal

abbrev pub invariant-loop-place : goal.invariant-loop-place
invariant-loop-place l = string_bytes l.text ≡ string_bytes l.fn.text ++ texts_below output_line l.place
