use Rattle.std.proofs.Common.{◌≡◌, ◌++◌, drop}
use Rattle.std.specs.Option.{option_copied, option_to_list}
use Rattle.rx_server.specs.Inputs.{named, items_of}
use Rattle.rx_server.proofs.inputs.only_item.Given as goal

-- what was found, and what the files that are left have of the name
abbrev pub invariant-loop-cipher : goal.invariant-loop-cipher
invariant-loop-cipher l =
    option_to_list (option_copied l.found) ++ named l.input.name (items_of (drop l.cipher-index l.ciphers))
    ≡ named l.input.name (items_of l.ciphers)
