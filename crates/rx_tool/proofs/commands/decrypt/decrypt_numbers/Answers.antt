use Rattle.std.proofs.Common.{sym, string_bytes}
use Rattle.rx_tool.proofs.Decrypted.{both_files, decrypted}
use Rattle.rx_tool.proofs.commands.decrypt.decrypt_numbers.Goals as goal

pub returns-in-Ok-decrypt_items : goal.returns-in-Ok-decrypt_items
returns-in-Ok-decrypt_items c =
    let files = c.args.files.now in
    let first = c.as_slice.result.now in
    let second = c.as_slice-2.result.now in
    decrypted c.args.client.now c.args.input.now first second c.in-Ok.keys c.in-Ok-decode_cipher.cipher c.first_difference.result
    files c.in_ok-key.key c.as_slice-3.result.now c.new.result.items (string_bytes c.in-Ok-decrypt_items.lines)
    (both_files files first second c.index-files-0.result c.index-files-1.result c.requires c.index-files-0.is c.index-files-1.is c.as_slice.ensures
    c.as_slice-2.ensures) (sym c.in-Ok.ensures.exact) c.in-Ok-decode_cipher.ensures.exact c.in-Ok.ensures.found c.in-Ok-decode_cipher.ensures.found
    c.first_difference.ensures c.in_default.is c.in_ok-key.ensures.key c.as_slice-3.ensures
    (record { whole = c.in-Ok-decrypt_items.ensures.exact; kept = c.in-Ok-decrypt_items.ensures.kept }) c.new.ensures.items
