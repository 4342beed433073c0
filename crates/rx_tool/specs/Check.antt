-- check P: prints the worst-case sums of a set that is accepted.
use Rattle.std.specs.Prelude.{ℕ, ◌≡◌, List, [], ◌∷◌, ◌++◌, codes, decimal, Option, Some, None}
use Rattle.rx_params.specs.declared.params.Params.{Params}
use Rattle.rx_params.specs.declared.bounds.Bounds.{Bounds}
use Rattle.rx_params.specs.Derived.{bounds_of}
use Rattle.rx_params.specs.Acceptance.{Accepts}
use Rattle.rx_tool.specs.declared.command.Source.{Source}
use Rattle.rx_tool.specs.declared.command.Command.{Command}
use Rattle.rx_tool.specs.declared.command.Command.TheVariants.{Check}
use Rattle.rx_tool.specs.Sources.{source_of, IsSet}

abbrev pub check_of : List (List ℕ) → Option Command
check_of (source ∷ []) = Some (Check (source_of source))
check_of _ = None

-- the line of a sum
abbrev pub bound_line : List ℕ → ℕ → List ℕ
bound_line name bound = name ++ (32 ∷ (decimal bound ++ 10 ∷ []))

-- the seven lines of an accepted set
abbrev pub bounds_lines : Bounds → List ℕ
bounds_lines b =
    bound_line (codes "step") b.step ++ bound_line (codes "boot") b.boot ++ bound_line (codes "switch") b.switch
    ++ bound_line (codes "round") b.round ++ bound_line (codes "left") b.left ++ bound_line (codes "right") b.right
    ++ (codes "accepted" ++ 10 ∷ [])

abbrev pub CheckDoes : Source → List (List ℕ) → List (List ℕ × List ℕ) → List ℕ → Type 0
CheckDoes source files writes lines =
    (p : Params) × IsSet source files p × Accepts p × (writes ≡ []) × (lines ≡ bounds_lines (bounds_of p))
