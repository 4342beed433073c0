use Rattle.std.proofs.Common.{string_bytes, refl}
use Rattle.rx_sample.specs.Samples.{input_line}
use Rattle.rx_sample.proofs.Steps.{text_more, text_none}
use Rattle.rx_sample.proofs.sample.put_inputs.Goals as goal

pub loop-place-init : goal.loop-place-init
loop-place-init c = text_none input_line (string_bytes c.args.text.now)

pub loop-place-preserved : goal.loop-place-preserved
loop-place-preserved c =
    text_more input_line c.loop-place.place (string_bytes c.args.text.now) (string_bytes c.loop-place.text) (string_bytes c.put_input.new.text) (input_line c.loop-place.place)
    c.loop-place.invariant c.in_ok-put_input.ensures refl
