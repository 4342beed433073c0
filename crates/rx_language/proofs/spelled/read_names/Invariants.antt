use Rattle.std.proofs.Common.{◌≡◌, ◌-◌, []}
use Rattle.rx_language.specs.Reading.{names_from}
use Rattle.rx_language.proofs.spelled.read_names.Given as goal

-- the names so far and those that are left are all names
abbrev pub invariant-loop : goal.invariant-loop
invariant-loop l = names_from (l.count - l.counter) l.names.items l.words ≡ names_from l.count [] l.fn.words
