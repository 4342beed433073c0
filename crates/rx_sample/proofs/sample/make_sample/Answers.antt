use Rattle.std.proofs.Common.{◌++◌, codes, [], ◌∷◌, refl}
use Rattle.rx_sample.specs.Draws.{state_after}
use Rattle.rx_sample.specs.Samples.{texts_below, input_line, drawn_line, output_line, circuit_text, values_text}
use Rattle.rx_sample.proofs.Steps.{four_texts}
use Rattle.rx_sample.proofs.sample.make_sample.Goals as goal

pub returns-clause-circuit : goal.returns-clause-circuit
unfolding circuit_text
returns-clause-circuit c =
    rw (
      c.in_ok-put_outputs.ensures,
      c.in_ok-put_operations.ensures,
      c.in_ok-put_inputs.ensures,
      c.in_ok-circuit.ensures.ok,
      c.in_ok-put_values.ensures.draws,
      c.from-draws.ensures,
    ) (four_texts (codes "bits 2 16" ++ 10 ∷ []) (texts_below input_line 8) (texts_below (drawn_line (state_after c.args.number 8)) 16) (texts_below output_line 8))

pub returns-clause-values : goal.returns-clause-values
unfolding values_text
returns-clause-values c = rw (c.in_ok-put_values.ensures.text, c.new-values.ensures.bytes, c.from-draws.ensures) refl
