-- Whether numbers are within the kinds of the inputs of a circuit, as a test line by line.
use Rattle.std.specs.Prelude.{ℕ, ◌+◌, ◌^◌, nat_lt, ◌==◌, ◌&&◌, Bool, false, List, ◌∷◌, get_or, length, Option, Some, None, if◌then◌else◌}
use Rattle.rx_language.specs.declared.kind.NameKind.{NameKind}
use Rattle.rx_language.specs.declared.line.Line.{Line}
use Rattle.rx_language.specs.declared.line.Step.{Step}
use Rattle.rx_language.specs.Words.{is_input}
use Rattle.rx_language.specs.Kinds.{bits_of}

-- the number of the next input after a line of this kind; none where it has no input within its kind
abbrev pub taken_after : List ℕ → Option ℕ → Line → NameKind → Option ℕ
taken_after inputs None line kind = None
taken_after inputs (Some next) line kind =
    if is_input line.word then
    (if nat_lt next (length inputs) && nat_lt (get_or inputs next 0) (2 ^ bits_of kind) then Some (next + 1) else None)
    else Some next

-- all inputs are taken after these lines
unfoldable pub is_taken_from : List ℕ → Option ℕ → List Line → List Step → Bool
is_taken_from inputs next (line ∷ lines) (step ∷ steps) = is_taken_from inputs (taken_after inputs next line step.kind) lines steps
is_taken_from inputs (Some next) _ _ = next == length inputs
is_taken_from inputs None _ _ = false
