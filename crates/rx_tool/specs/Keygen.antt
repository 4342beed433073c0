-- keygen CLIENT MASKSEED SERVER: writes the seeded server file of a client's key.
use Rattle.std.specs.Prelude.{ℕ, ◌≡◌, List, [], ◌∷◌, Option, None, Result, Ok, Err}
use Rattle.std.specs.Option.{option_map}
use Rattle.rx_lwe.specs.Secret.{small_key, large_key}
use Rattle.rx_boot.specs.ServerKeys.{IsServerKey, server_key}
use Rattle.rx_codec.specs.declared.client.Client.{Client}
use Rattle.rx_codec.specs.declared.fault.CodecFault.{CodecFault}
use Rattle.rx_codec.specs.ClientFile.{ClientFile, client_from}
use Rattle.rx_seeded.specs.SeededServer.{SeededServer}
use Rattle.rx_report.specs.Reports.{Report, malformed_binary}
use Rattle.rx_tool.specs.declared.command.Command.{Command}
use Rattle.rx_tool.specs.declared.command.Command.TheVariants.{Keygen}
use Rattle.rx_tool.specs.MakeClient.{seed_of}

abbrev pub keygen_of : List (List ℕ) → Option Command
keygen_of (client ∷ mask_seed ∷ server ∷ []) = option_map (λ mask. Keygen client mask server) (seed_of mask_seed)
keygen_of _ = None

abbrev pub keygen_refused : List ℕ → Result Client CodecFault → Option Report
keygen_refused client (Err fault) = malformed_binary client fault
keygen_refused client (Ok c) = None

-- what refuses: the client file
abbrev pub keygen_refusal : List ℕ → List (List ℕ) → Option Report
keygen_refusal client (client_file ∷ []) = keygen_refused client (client_from client_file)
keygen_refusal client _ = None

-- the seeded server file of the key that the client's seed and the mask seed make, and that it is a server key of the client's secret
abbrev pub KeygenDoes : List ℕ → List ℕ → List (List ℕ) → List (List ℕ × List ℕ) → List ℕ → Type 0
KeygenDoes mask_seed server (client_file ∷ []) writes lines =
    (c : Client) × (bytes : List ℕ) × ClientFile client_file c × SeededServer bytes mask_seed (server_key c.params c.seed mask_seed)
    × IsServerKey (small_key c.params c.seed) (large_key c.params c.seed) (server_key c.params c.seed mask_seed)
    × (writes ≡ (server, bytes) ∷ []) × (lines ≡ [])
KeygenDoes mask_seed server _ writes lines = ⊥
