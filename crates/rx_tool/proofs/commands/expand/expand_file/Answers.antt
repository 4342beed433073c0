use Rattle.std.proofs.Common.{string_bytes}
use Rattle.rx_tool.proofs.ExpandedFiles.{expand_done}
use Rattle.rx_tool.proofs.commands.expand.expand_file.Goals as goal

pub returns-in_ok-one_file-in-Ok : goal.returns-in_ok-one_file-in-Ok
returns-in_ok-one_file-in-Ok c =
    let done = c.in_ok-one_file-in-Ok.field-0 in
    expand_done c.args.input.now c.as_str.result.now c.args.out.now c.args.files.now c.index-files-0.result c.as_slice.result.now c.in-Ok.bytes.items
    done.writes.items (string_bytes done.lines) c.requires c.index-files-0.is c.as_slice.ensures c.as_str.ensures c.in-Ok.ensures
    c.in_ok-one_file-in-Ok.ensures.writes c.in_ok-one_file-in-Ok.ensures.lines
