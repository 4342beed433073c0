use Rattle.std.proofs.Common.{[], refl, ◌∙◌}
use Rattle.std.proofs.lemmas.Result.{err_from_is_err_and}
use Rattle.rx_codec.specs.Reading.{many_at}
use Rattle.rx_codec.specs.NetFile.{term_at}
use Rattle.rx_codec.proofs.Loops.{err_fails, goes_on, stops}
use Rattle.rx_codec.proofs.net_reading.read_each_term.Goals as goal

pub returns-in_err-term-clause-value : goal.returns-in_err-term-clause-value
returns-in_err-term-clause-value c =
    let p = err_from_is_err_and c.from_residual.result c.from_residual.ensures.1 in
    let file = c.loop.reader.file in
    let failed = err_fails c.in_err-term.field-0.0 (term_at file c.loop.reader.at) (c.in_err-term.ensures.value) in
    rw (p.1, p.2) (stops (λ n before at. many_at (λ before. term_at) n before file at) (λ before at. term_at file at) (λ n before at. refl)
    c.in_err-term.field-0.0 c.args.count c.loop.counter c.loop.terms.items c.loop.reader.at
    (many_at (λ before. term_at) c.args.count [] c.args.reader.now.file c.args.reader.now.at)
    c.loop-test.true failed c.loop.invariant.rest)

pub loop-preserved : goal.loop-preserved
loop-preserved c =
    let file = c.loop.reader.file in
    let read = c.in_ok-term.ensures.value in
    record {
      file = c.in_ok-term.ensures.file ∙ c.loop.invariant.file;
      rest = rw (c.in_ok-push.ensures.items, c.in_ok-term.ensures.file)
          (goes_on (λ n before at. many_at (λ before. term_at) n before file at) (λ before at. term_at file at) (λ n before at. refl)
          c.args.count c.loop.counter c.loop.terms.items c.loop.reader.at c.in_ok-term.term c.read_term.new.reader.at
          (many_at (λ before. term_at) c.args.count [] c.args.reader.now.file c.args.reader.now.at)
          c.loop-test.true read c.loop.invariant.rest);
    }
