use Rattle.std.proofs.Common.{[], refl, ◌∙◌}
use Rattle.std.proofs.lemmas.Result.{err_from_is_err_and}
use Rattle.rx_codec.specs.Reading.{many_at}
use Rattle.rx_codec.specs.NetFile.{output_at}
use Rattle.rx_codec.proofs.Loops.{goes_on, stops}
use Rattle.rx_codec.proofs.net_reading.read_each_output.Goals as goal

pub returns-in_err-output-clause-value : goal.returns-in_err-output-clause-value
returns-in_err-output-clause-value c =
    let p = err_from_is_err_and c.from_residual.result c.from_residual.ensures.1 in
    let file = c.loop.reader.file in
    let failed = rw c.as_slice.ensures.value at c.in_err-output.ensures.value in
    rw (p.1, p.2) (stops (λ n before at. many_at (output_at c.args.space) n before file at) (λ before at. output_at c.args.space before file at) (λ n before at. refl)
    c.in_err-output.field-0.0 c.args.count c.loop.counter c.loop.outputs.items c.loop.reader.at
    (many_at (output_at c.args.space) c.args.count [] c.args.reader.now.file c.args.reader.now.at)
    c.loop-test.true failed c.loop.invariant.rest)

pub loop-preserved : goal.loop-preserved
loop-preserved c =
    let file = c.loop.reader.file in
    let read = rw c.as_slice.ensures.value at c.in_ok-output.ensures.value in
    record {
      file = c.in_ok-output.ensures.file ∙ c.loop.invariant.file;
      rest = rw (c.in_ok-push.ensures.items, c.in_ok-output.ensures.file)
          (goes_on (λ n before at. many_at (output_at c.args.space) n before file at) (λ before at. output_at c.args.space before file at) (λ n before at. refl)
          c.args.count c.loop.counter c.loop.outputs.items c.loop.reader.at c.in_ok-output.output c.read_output.new.reader.at
          (many_at (output_at c.args.space) c.args.count [] c.args.reader.now.file c.args.reader.now.at)
          c.loop-test.true read c.loop.invariant.rest);
    }
