use Rattle.std.proofs.Common.{◌≡◌, ◌+◌, ℕ, sym, ap, ◌∙◌, string_bytes}
use Rattle.rx_sample.specs.Draws.{next, drawn_of}
use Rattle.rx_sample.specs.Samples.{drawn_line, operation_line}
use Rattle.rx_sample.proofs.Steps.{state_none, line_draws, line_is, text_more, text_none}
use Rattle.rx_sample.proofs.sample.put_operations.Goals as goal

pub loop-place-init : goal.loop-place-init
loop-place-init c = record {
  draws = sym (state_none c.args.draws.now);
  text = text_none (drawn_line c.args.draws.now) (string_bytes c.args.text.now);
}

pub loop-place-preserved : goal.loop-place-preserved
loop-place-preserved c =
    let state = c.args.draws.now in
    let t = c.loop-place.place in
    let d = line_draws state t c.loop-place.draws c.loop-place.invariant.draws in
    let second_state : c.draw-first.new.self ≡ next (next c.loop-place.draws) = c.draw-first.ensures.state ∙ ap next c.draw.ensures.state in
    let last_state : c.draw-second.new.self ≡ next (next (next c.loop-place.draws)) = c.draw-second.ensures.state ∙ ap next second_state in
    let a = c.draw.ensures.value ∙ ap (λ (s : ℕ). drawn_of s 8) d.word in
    let first = c.draw-first.ensures.value ∙ ap (λ (s : ℕ). drawn_of (next s) (8 + t)) c.draw.ensures.state ∙ ap (λ (s : ℕ). drawn_of s (8 + t)) d.first in
    let second = c.draw-second.ensures.value ∙ ap (λ (s : ℕ). drawn_of (next s) (8 + t)) second_state ∙ ap (λ (s : ℕ). drawn_of s (8 + t)) d.second in
    record {
      draws = last_state ∙ d.after;
      text = text_more (drawn_line state) t (string_bytes c.args.text.now) (string_bytes c.loop-place.text) (string_bytes c.put_operation.new.text)
          (operation_line c.operation-word.result.now t c.draw-first.result c.draw-second.result) c.loop-place.invariant.text c.in_ok-put_operation.ensures
          (line_is state t c.operation-word.result.now c.draw.result c.draw-first.result c.draw-second.result c.operation-word.ensures a first second);
    }
