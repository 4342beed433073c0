use Rattle.std.proofs.Common.{◌∙◌, ap, subst, take, drop, length, string_bytes}
use Rattle.std.specs.Prelude.{◌-◌}
use Rattle.rx_boot.specs.ServerKeys.{ServerWords}
use Rattle.rx_codec.specs.CipherFile.{CipherFile}
use Rattle.rx_tool.specs.Run.{input_blocks, jobs_line}
use Rattle.rx_tool.specs.Words.{texts}
use Rattle.rx_tool.proofs.RunInputs.{values_fit}
use Rattle.rx_tool.proofs.NetRuns.{two_files, count_is, inputs_fit, stopped_by_values, refusal_is, run_does}
use Rattle.rx_tool.proofs.commands.run.run_net_files.Goals as goal

pub checked_inputs-requires-clause-count : goal.checked_inputs-requires-clause-count
checked_inputs-requires-clause-count g c =
    count_is c.args.files.now c.args.inputs.now c.in-Ok-read_ciphers.ciphers.items c.deref.result.now c.words-names.result.now c.in-len2-up.len_at_least c.requires c.words-names.ensures
    c.deref.ensures.value c.in-Ok-read_ciphers.ensures.1.1

pub returns-in-Err-checked_inputs : goal.returns-in-Err-checked_inputs
returns-in-Err-checked_inputs g c =
    let files = c.args.files.now in
    let rest = take (length files - 2) (drop 2 files) in
    stopped_by_values c.args.server.now c.args.net.now c.args.out.now c.args.workers c.args.inputs.now files c.as_slice.result.now c.as_slice-2.result.now rest
    c.in-Ok.key c.in-Ok-decode_net.legal c.in-Ok-read_ciphers.ciphers.items c.as_str-2.result.now c.key.inside.params (texts c.words-names.result.now) c.deref.result.now
    c.in-Err-checked_inputs.stop
    (two_files files c.as_slice.result.now c.as_slice-2.result.now c.server_file-item.result c.net_file-item.result c.in-len2-up.len_at_least c.server_file-item.is c.net_file-item.is
    c.as_slice.ensures c.as_slice-2.ensures) c.in-Ok.ensures.exact c.in-Ok-decode_net.ensures.exact c.as_str-2.ensures (ap (λ (k : ServerWords). k.params) c.key.view_is) c.words-names.ensures c.deref.ensures.value
    c.in-Ok-read_ciphers.ensures c.in-Err-checked_inputs.ensures

pub evaluate-requires-clause-inputs : goal.evaluate-requires-clause-inputs
evaluate-requires-clause-inputs g c lifetimes well_formed =
    let files = c.args.files.now in
    inputs_fit c.in-Ok.key c.in-Ok-decode_net.legal c.args.workers c.key.inside.params c.in-Ok-read_ciphers.ciphers.items c.deref.result.now c.in-Ok-checked_inputs.blocks.items
    c.deref-2.result.now c.server_laws.ensures (values_fit (take (length files - 2) (drop 2 files)) c.in-Ok-read_ciphers.ciphers.items c.in-Ok-read_ciphers.ensures.1.1)
    (ap (λ (k : ServerWords). k.params) c.key.view_is) c.deref.ensures.value c.in-Ok-checked_inputs.ensures.1.0 c.in-Ok-checked_inputs.ensures.1.1 c.deref-2.ensures.value

pub returns : goal.returns
returns g c =
    let files = c.args.files.now in
    let rest = take (length files - 2) (drop 2 files) in
    let parts = two_files files c.as_slice.result.now c.as_slice-2.result.now c.server_file-item.result c.net_file-item.result c.in-len2-up.len_at_least c.server_file-item.is c.net_file-item.is
    c.as_slice.ensures c.as_slice-2.ensures in
    let ciphers = c.in-Ok-read_ciphers.ciphers.items in
    let found = c.deref-2.ensures.value ∙ c.in-Ok-checked_inputs.ensures.1.1 ∙ ap (input_blocks c.in-Ok-decode_net.legal) c.deref.ensures.value in (
      refusal_is c.args.server.now c.args.net.now c.args.out.now c.args.workers c.args.inputs.now files c.as_slice.result.now c.as_slice-2.result.now rest c.in-Ok.key c.in-Ok-decode_net.legal ciphers
          c.as_str-2.result.now c.key.inside.params (texts c.words-names.result.now) c.deref.result.now parts c.in-Ok.ensures.exact c.in-Ok-decode_net.ensures.exact c.as_str-2.ensures
          (ap (λ (k : ServerWords). k.params) c.key.view_is) c.words-names.ensures c.deref.ensures.value c.in-Ok-read_ciphers.ensures ∙ c.in-Ok-checked_inputs.ensures.0,
      run_does c.args.server.now c.args.net.now c.args.out.now c.args.workers c.args.inputs.now files c.as_slice.result.now c.as_slice-2.result.now rest c.in-Ok.key c.in-Ok-decode_net.legal ciphers
          c.deref-2.result.now c.in_ok-bytes.bytes.items c.in_ok-done.done.writes.items (string_bytes c.in_ok-lines.lines) c.server_laws.ensures c.in-Ok-decode_net.ensures.found.fits.legal parts
          c.in-Ok.ensures.found c.in-Ok-decode_net.ensures.found c.in-Ok-read_ciphers.ensures.1.1 found
          (inputs_fit c.in-Ok.key c.in-Ok-decode_net.legal c.args.workers c.key.inside.params ciphers c.deref.result.now c.in-Ok-checked_inputs.blocks.items
          c.deref-2.result.now c.server_laws.ensures (values_fit rest ciphers c.in-Ok-read_ciphers.ensures.1.1)
          (ap (λ (k : ServerWords). k.params) c.key.view_is) c.deref.ensures.value c.in-Ok-checked_inputs.ensures.1.0 c.in-Ok-checked_inputs.ensures.1.1 c.deref-2.ensures.value)
          (subst (CipherFile c.in_ok-bytes.bytes.items) c.in_ok-made.ensures.outputs c.in_ok-bytes.ensures)
          c.in_ok-made.ensures.keeps c.in_ok-done.ensures.writes (c.in_ok-lines.ensures ∙ ap jobs_line c.in_ok-made.ensures.jobs),
    )
