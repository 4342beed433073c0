-- A circuit while its text is read: the program so far, what is known of its lines, and an index of names.
use Rattle.std.specs.Prelude.{String, ℕ, ◌<◌, ◌≡◌, List, [], ◌∷◌, ◌++◌, length, position, Option, option_map, Result, Ok, Err, map}
use Rattle.std.specs.List.{list_all}
use Rattle.std.specs.BTreeMap.{BTreeMap, get_by_text}
use Rattle.std.specs.Global.{Global}
use Rattle.rx_text.specs.declared.fault.LineCause.{LineCause}
use Rattle.rx_text.specs.declared.fault.LineCause.TheVariants.{Unknown}
use Rattle.rx_language.specs.declared.kind.NameKind.{NameKind}
use Rattle.rx_language.specs.declared.line.Line.{Line}
use Rattle.rx_language.specs.declared.line.Step.{Step}
use Rattle.rx_language.specs.Programs.{Program, program_of_fields, IsProgram, defines, place_of, is_defined, kind_at, steps_by, steps_of}
use Rattle.rx_language.specs.Reading.{tested}

-- the index tells the place of the line that defines a name
abbrev pub TellsPlaces : BTreeMap (String Global) ℕ → List Line → Type 0
TellsPlaces places lines = (name : List ℕ) → get_by_text places name ≡ position (defines name) lines

pub record IsDraft (p : Program) (steps : List Step) (places : BTreeMap (String Global) ℕ) : Type 0 where
  pub program : IsProgram p
  pub steps_are : steps ≡ steps_of p
  pub places_are : TellsPlaces places p.lines
  pub few : length p.lines < 4096

-- the program with one line more
abbrev pub with_line : Program → Line → Program
with_line p line = program_of_fields p.space p.width (p.lines ++ line ∷ [])

abbrev pub extended : Program → Result Line LineCause → Result Program LineCause
extended p (Ok line) = Ok (with_line p line)
extended p (Err cause) = Err cause

-- the place of the line that defines a name, and its kind
abbrev pub found_in : ℕ → List Line → List ℕ → Option (ℕ × NameKind)
found_in width lines name = option_map (λ place. (place, kind_at (steps_by width lines) place)) (position (defines name) lines)

-- the places of the lines that define these names, and their kinds
abbrev pub all_found : ℕ → List Line → List (List ℕ) → Result (List ℕ × List NameKind) LineCause
all_found width lines names =
    tested (list_all (is_defined lines) names) Unknown
    (Ok (map (λ name. place_of name lines) names, map (λ name. kind_at (steps_by width lines) (place_of name lines)) names))
