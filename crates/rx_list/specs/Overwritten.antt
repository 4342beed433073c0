-- Lists that are written in place.
use Rattle.std.specs.Prelude.{ℕ, List, ◌++◌, length, take, drop}

-- a list of the same length whose first values are these
abbrev pub overwritten : {A : Type 0} → List A → List A → List A
overwritten old values = take (length old) (values ++ drop (length values) old)
