use Rattle.std.proofs.Common.{string_bytes, refl}
use Rattle.rx_sample.specs.Samples.{output_line}
use Rattle.rx_sample.proofs.Steps.{text_more, text_none}
use Rattle.rx_sample.proofs.sample.put_outputs.Goals as goal

pub loop-place-init : goal.loop-place-init
loop-place-init c = text_none output_line (string_bytes c.args.text.now)

pub loop-place-preserved : goal.loop-place-preserved
loop-place-preserved c =
    text_more output_line c.loop-place.place (string_bytes c.args.text.now) (string_bytes c.loop-place.text) (string_bytes c.put_output.new.text) (output_line c.loop-place.place)
    c.loop-place.invariant c.in_ok-put_output.ensures refl
