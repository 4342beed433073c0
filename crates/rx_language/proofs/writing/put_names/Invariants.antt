use Rattle.std.proofs.Common.{◌≡◌, ◌++◌, drop, string_bytes}
use Rattle.rx_language.specs.Writing.{spaced}
use Rattle.rx_language.proofs.writing.put_names.Given as goal

-- what is written and the names that are left are all of it
abbrev pub invariant-loop-name : goal.invariant-loop-name
invariant-loop-name l = string_bytes l.text ++ spaced (drop l.name-index l.names) ≡ string_bytes l.fn.text ++ spaced l.names
