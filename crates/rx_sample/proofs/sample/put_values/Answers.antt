use Rattle.std.proofs.Common.{◌≡◌, ◌+◌, ℕ, sym, ap, ◌∙◌, string_bytes, refl}
use Rattle.rx_sample.specs.Draws.{next, state_after, drawn_of}
use Rattle.rx_sample.specs.Samples.{value_line}
use Rattle.rx_sample.proofs.Steps.{state_none, state_more, text_more, text_none}
use Rattle.rx_sample.proofs.sample.put_values.Goals as goal

pub loop-place-init : goal.loop-place-init
loop-place-init c = record {
  text = text_none (value_line c.args.draws.now) (string_bytes c.args.text.now);
  draws = sym (state_none c.args.draws.now);
}

pub loop-place-preserved : goal.loop-place-preserved
loop-place-preserved c =
    let state = c.args.draws.now in
    let i = c.loop-place.place in
    let more : next c.loop-place.draws ≡ state_after state (i + 1) = ap next c.loop-place.invariant.draws ∙ sym (state_more state i) in
    let value = c.draw-value.ensures.value ∙ ap (λ (s : ℕ). drawn_of s 65536) more in
    record {
      text = text_more (value_line state) i (string_bytes c.args.text.now) (string_bytes c.loop-place.text) (string_bytes c.put_value.new.text) (value_line state i)
          c.loop-place.invariant.text (c.in_ok-put_value.ensures state value) refl;
      draws = c.draw-value.ensures.state ∙ more;
    }
