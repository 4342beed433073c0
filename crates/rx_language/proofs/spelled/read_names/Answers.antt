use Rattle.std.proofs.Common.{[]}
use Rattle.std.proofs.lemmas.Result.{err_from_is_err_and}
use Rattle.rx_language.specs.Reading.{names_from}
use Rattle.rx_language.proofs.Loops.{goes_on, stops}
use Rattle.rx_language.proofs.spelled.read_names.Goals as goal

pub returns-in_err-name : goal.returns-in_err-name
returns-in_err-name c =
    let p = err_from_is_err_and c.from_residual.result c.from_residual.ensures.1 in
    rw (p.1, p.2) (stops c.in_err-name.field-0.0 c.args.count c.loop.counter c.loop.names.items c.loop.words
    (names_from c.args.count [] c.args.words.now) c.loop-test.true c.in_err-name.ensures c.loop.invariant)

pub loop-preserved : goal.loop-preserved
loop-preserved c =
    rw c.in_ok-push.ensures.items
    (goes_on c.args.count c.loop.counter c.loop.names.items c.loop.words c.in_ok-name.name c.name.new.self
    (names_from c.args.count [] c.args.words.now) c.loop-test.true c.in_ok-name.ensures c.loop.invariant)
