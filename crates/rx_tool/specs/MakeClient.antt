-- client P SEED CLIENT: writes the client file of a set and a seed.
use Rattle.std.specs.Prelude.{ℕ, ◌≡◌, List, [], ◌∷◌, Option, None}
use Rattle.std.specs.Option.{option_map}
use Rattle.std.specs.Result.{result_ok}
use Rattle.hex.specs.Hex.{decode_sized}
use Rattle.rx_params.specs.declared.params.Params.{Params}
use Rattle.rx_codec.specs.ClientFile.{ClientFile}
use Rattle.rx_tool.specs.declared.command.Source.{Source}
use Rattle.rx_tool.specs.declared.command.Command.{Command}
use Rattle.rx_tool.specs.declared.command.Command.TheVariants.{MakeClient}
use Rattle.rx_tool.specs.Sources.{source_of, IsSet}

-- the seed of a word: 64 hexadecimal digits, in either case
abbrev pub seed_of : List ℕ → Option (List ℕ)
seed_of word = result_ok (decode_sized word 32)

abbrev pub client_of : List (List ℕ) → Option Command
client_of (source ∷ seed ∷ client ∷ []) = option_map (λ bytes. MakeClient (source_of source) bytes client) (seed_of seed)
client_of _ = None

abbrev pub ClientDoes : Source → List ℕ → List ℕ → List (List ℕ) → List (List ℕ × List ℕ) → List ℕ → Type 0
ClientDoes source seed client files writes lines =
    (p : Params) × (bytes : List ℕ) × IsSet source files p × ClientFile bytes (record { params = p; seed = seed })
    × (writes ≡ (client, bytes) ∷ []) × (lines ≡ [])
