use Rattle.std.proofs.Common.{sym, arith, string_bytes}
use Rattle.std.proofs.lemmas.List.{length-map}
use Rattle.rx_report.specs.Reports.{mismatch}
use Rattle.rx_tool.specs.Refusals.{set_difference}
use Rattle.rx_tool.specs.Words.{texts}
use Rattle.rx_tool.proofs.RunInputs.{named_at, one_same, differs_at, stops_for}
use Rattle.rx_tool.proofs.commands.differences.check_sets.Goals as goal

pub returns-in-Some : goal.returns-in-Some
returns-in-Some c =
    let names = texts c.args.names.now in
    let name = c.as_str.result.now in
    let at = named_at c.args.names.now c.loop-place.place c.index-names-place.result name (omega (arith, c.loop-place-test.true, c.requires)) c.index-names-place.is c.as_str.ensures.value in
    stops_for (set_difference c.args.set.now names c.args.ciphers.now) (mismatch name c.in-Some.difference) c.mismatch.result c.stop_for.result
    (differs_at c.args.set.now names c.args.ciphers.now c.loop-place.place name c.index-ciphers-place.result c.in-Some.difference c.loop-place.invariant
    at.0 at.1 c.loop-place-test.true c.index-ciphers-place.is (sym c.in-Some.ensures))
    c.mismatch.ensures c.stop_for.ensures

pub loop-place-preserved : goal.loop-place-preserved
loop-place-preserved c =
    one_same c.args.set.now (texts c.args.names.now) c.args.ciphers.now c.loop-place.place c.index-ciphers-place.result c.first_difference.result c.loop-place.invariant
    (omega (arith, c.loop-place-test.true, c.requires, length-map c.args.names.now string_bytes)) c.loop-place-test.true c.index-ciphers-place.is c.first_difference.ensures c.in_default.is
