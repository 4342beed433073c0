-- Looking the names of a line up, one after the other.
use Rattle.std.proofs.Common.{◌≡◌, ℕ, Bool, true, false, cond, List, [], ◌∷◌, ◌++◌, length, map, option_map, Option, Some, None, Result, Ok, Err, refl, sym, ap, append_assoc}
use Rattle.std.specs.List.{list_all}
use Rattle.std.proofs.lemmas.Option.{same_Some}
use Rattle.rx_text.specs.declared.fault.LineCause.{LineCause}
use Rattle.rx_text.specs.declared.fault.LineCause.TheVariants.{Unknown}
use Rattle.rx_language.specs.declared.kind.NameKind.{NameKind}
use Rattle.rx_language.specs.declared.line.Line.{Line}
use Rattle.rx_language.specs.Programs.{place_of, is_defined, kind_at, steps_by}
use Rattle.rx_language.specs.Reading.{tested}
use Rattle.rx_language.specs.Drafts.{found_in}

-- what was found before, and then what these names find
abbrev pub found_then : ℕ → List Line → List ℕ → List NameKind → List (List ℕ) → Result (List ℕ × List NameKind) LineCause
found_then width lines sources kinds names =
    tested (list_all (is_defined lines) names) Unknown
    (Ok (sources ++ map (λ name. place_of name lines) names, kinds ++ map (λ name. kind_at (steps_by width lines) (place_of name lines)) names))
