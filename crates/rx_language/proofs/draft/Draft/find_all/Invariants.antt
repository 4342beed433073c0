use Rattle.std.proofs.Common.{◌≡◌, drop}
use Rattle.rx_language.specs.Drafts.{all_found}
use Rattle.rx_language.proofs.Found.{found_then}
use Rattle.rx_language.proofs.draft.Draft.find_all.Given as goal

-- what was found, and the names that are left, are as all names
abbrev pub invariant-loop-name : goal.invariant-loop-name
invariant-loop-name l =
    found_then l.self.width l.self.lines l.sources.items l.kinds.items (drop l.name-index l.names) ≡ all_found l.self.width l.self.lines l.names
