-- The lines of numbers with names: the name, a space, the numeral and a line feed.
use Rattle.std.specs.Prelude.{ℕ, List, [], ◌∷◌, ◌++◌, decimal, map, if◌then◌else◌}
use Rattle.rx_language.specs.declared.line.Line.{Line}
use Rattle.rx_language.specs.Words.{is_output}
use Rattle.rx_language.specs.Programs.{Port}

abbrev pub number_line : List ℕ → ℕ → List ℕ
number_line name number = name ++ 32 ∷ decimal number ++ 10 ∷ []

-- a line for each name, with the number at its place
abbrev pub number_lines : List (List ℕ) → List ℕ → List ℕ
number_lines (name ∷ names) (number ∷ numbers) = number_line name number ++ number_lines names numbers
number_lines _ _ = []

abbrev pub port_names : List Port → List (List ℕ)
port_names ports = map (λ port. port.name) ports

-- the names that these lines give out
abbrev pub output_names : List Line → List (List ℕ)
output_names [] = []
output_names (line ∷ lines) = if is_output line.word then line.name ∷ output_names lines else output_names lines
