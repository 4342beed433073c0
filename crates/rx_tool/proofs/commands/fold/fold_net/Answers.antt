use Rattle.std.proofs.Common.{string_bytes, length, ap, ◌∙◌}
use Rattle.rx_tool.specs.Compile.{size_line}
use Rattle.rx_tool.proofs.FoldedFiles.{fold_done}
use Rattle.rx_tool.proofs.commands.fold.fold_net.Goals as goal

pub returns : goal.returns
returns c =
    let new = c.in-Ok-fold.folded in
    fold_done c.args.net.now c.args.out.now c.args.files.now c.index-files-0.result c.as_slice.result.now c.in_ok-bytes.bytes.items
    c.in-Ok.old new c.in_ok-done.done.writes.items (string_bytes c.in_ok-lines.lines) c.requires c.index-files-0.is c.as_slice.ensures
    c.in-Ok.ensures.exact c.in-Ok.ensures.found c.in-Ok-fold.ensures.folded c.in_ok-bytes.ensures c.in_ok-done.ensures.writes
    (c.in_ok-lines.ensures ∙ ap (λ jobs. size_line (length jobs) c.in_ok-depth.depth) c.as_slice-2.ensures
    ∙ ap (size_line (length new.jobs)) c.in_ok-depth.ensures)
