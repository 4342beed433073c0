-- make NUMBER CIRCUIT VALUES: writes a sample circuit and a value file with its inputs.
use Rattle.std.specs.Prelude.{ℕ, ◌≡◌, List, [], ◌∷◌, Option, None}
use Rattle.std.specs.Option.{option_map}
use Rattle.rx_sample.specs.Samples.{circuit_text, values_text}
use Rattle.rx_tool.specs.declared.command.Command.{Command}
use Rattle.rx_tool.specs.declared.command.Command.TheVariants.{Make}
use Rattle.rx_tool.specs.Run.{word_number}

abbrev pub make_of : List (List ℕ) → Option Command
make_of (number ∷ circuit ∷ values ∷ []) = option_map (λ n. Make n circuit values) (word_number number)
make_of _ = None

-- the circuit is written first; nothing is read, and nothing printed
abbrev pub MakeDoes : ℕ → List ℕ → List ℕ → List (List ℕ × List ℕ) → List ℕ → Type 0
MakeDoes number circuit values writes lines =
    (writes ≡ (circuit, circuit_text number) ∷ (values, values_text number) ∷ []) × (lines ≡ [])
