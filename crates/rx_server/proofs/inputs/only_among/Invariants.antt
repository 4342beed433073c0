use Rattle.std.proofs.Common.{◌≡◌, ◌++◌, drop}
use Rattle.std.specs.Option.{option_copied, option_to_list}
use Rattle.rx_server.specs.Inputs.{named}
use Rattle.rx_server.proofs.inputs.only_among.Given as goal

-- what was found, and what is left of the name
abbrev pub invariant-loop-item : goal.invariant-loop-item
invariant-loop-item l =
    option_to_list (option_copied l.found) ++ named l.name (drop l.item-index l.items)
    ≡ option_to_list (option_copied l.before) ++ named l.name l.items
