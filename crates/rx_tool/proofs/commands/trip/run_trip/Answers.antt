use Rattle.std.proofs.Common.{sym, string_bytes}
use Rattle.rx_tool.specs.Trip.{trip_files}
use Rattle.rx_tool.proofs.Trips.{three_files, trip_stops, trip_done}
use Rattle.rx_tool.proofs.commands.trip.run_trip.Goals as goal

pub returns-in-Err-checked_trip : goal.returns-in-Err-checked_trip
returns-in-Err-checked_trip g c =
    let files = c.args.files.now in
    trip_stops c.args.words.now files c.as_slice.result.now c.as_slice-2.result.now c.as_slice-3.result.now c.in-Ok.keys c.in-Ok-parse.circuit
    c.in-Ok-read_values.values c.in-Err-checked_trip.stop
    (three_files files c.as_slice.result.now c.as_slice-2.result.now c.as_slice-3.result.now c.index-files-0.result c.index-files-1.result c.index-files-2.result
    c.requires c.index-files-0.is c.index-files-1.is c.index-files-2.is c.as_slice.ensures c.as_slice-2.ensures c.as_slice-3.ensures)
    (sym c.in-Ok.ensures.exact) c.in-Ok-parse.ensures.exact c.in-Ok-read_values.ensures.exact c.in-Err-checked_trip.ensures

pub returns : goal.returns
returns g c =
    let files = c.args.files.now in
    let made = c.in-Ok-checked_trip.made in
    trip_done c.args.words.now files c.as_slice.result.now c.as_slice-2.result.now c.as_slice-3.result.now c.in-Ok.keys c.in-Ok-parse.circuit
    c.in-Ok-read_values.values c.in_ok-done.done.writes.items (string_bytes c.in_ok-done.done.lines)
    (trip_files c.args.words.now made.server.items made.net.items made.inputs.items made.outputs.items) (string_bytes made.lines)
    (three_files files c.as_slice.result.now c.as_slice-2.result.now c.as_slice-3.result.now c.index-files-0.result c.index-files-1.result c.index-files-2.result
    c.requires c.index-files-0.is c.index-files-1.is c.index-files-2.is c.as_slice.ensures c.as_slice-2.ensures c.as_slice-3.ensures)
    (sym c.in-Ok.ensures.exact) c.in-Ok-parse.ensures.exact c.in-Ok-read_values.ensures.exact c.in-Ok-checked_trip.ensures.0
    c.in-Ok.ensures.found c.in-Ok-parse.ensures.found c.in-Ok-read_values.ensures.found c.in-Ok-checked_trip.ensures.1 c.in_ok-done.ensures.writes c.in_ok-done.ensures.lines
