use Rattle.std.proofs.Common.{arith}
use Rattle.rx_tool.specs.Words.{texts}
use Rattle.rx_tool.proofs.RunInputs.{named_at, one_read, stopped_for}
use Rattle.rx_tool.proofs.commands.run_inputs.read_ciphers.Goals as goal

pub returns-in-Err : goal.returns-in-Err
returns-in-Err c =
    let at = named_at c.args.names.now c.loop-place.place c.index-names-place.result c.as_str.result.now (omega (arith, c.loop-place-test.true, c.requires)) c.index-names-place.is c.as_str.ensures.value in
    stopped_for (texts c.args.names.now) c.args.files.now c.loop-place.place c.loop-place.ciphers.items c.as_str.result.now c.index-files-place.result c.in-Err.stop c.loop-place.invariant
    at c.loop-place-test.true c.index-files-place.is c.in-Err.ensures

pub loop-place-preserved : goal.loop-place-preserved
loop-place-preserved c =
    let at = named_at c.args.names.now c.loop-place.place c.index-names-place.result c.as_str.result.now (omega (arith, c.loop-place-test.true, c.requires)) c.index-names-place.is c.as_str.ensures.value in
    let read = c.in-Ok.ensures.1 in
    rw c.in_ok-push-in-Ok.ensures.items
    (one_read (texts c.args.names.now) c.args.files.now c.loop-place.place c.loop-place.ciphers.items c.as_str.result.now c.index-files-place.result c.in-Ok.cipher c.loop-place.invariant
    at.0 at.1 c.loop-place-test.true c.index-files-place.is read.0 read.1)
