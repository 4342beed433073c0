-- migrate MASKSEED IN OUT: writes the seeded file of the mask seed and of the value of a version 1 server or ciphertext file.
use Rattle.std.specs.Prelude.{ℕ, ◌≡◌, ◌⊎◌, List, [], ◌∷◌, codes, if◌then◌else◌, Option, Some, None, Result, Ok, Err}
use Rattle.std.specs.Option.{option_map}
use Rattle.rx_boot.specs.ServerKeys.{ServerWords}
use Rattle.rx_codec.specs.declared.cipher.Cipher.{Cipher}
use Rattle.rx_codec.specs.declared.fault.CodecFault.{CodecFault}
use Rattle.rx_codec.specs.ServerFile.{ServerFile, server_from}
use Rattle.rx_codec.specs.CipherFile.{CipherFile, cipher_from}
use Rattle.rx_seeded.specs.FileKinds.{begins}
use Rattle.rx_seeded.specs.SeededServer.{SeededServer, wrong_server_mask}
use Rattle.rx_seeded.specs.SeededCipher.{SeededCipher, wrong_cipher_mask}
use Rattle.rx_report.specs.Reports.{Report, malformed_binary, wrong_mask}
use Rattle.rx_tool.specs.declared.command.Command.{Command}
use Rattle.rx_tool.specs.declared.command.Command.TheVariants.{Migrate}
use Rattle.rx_tool.specs.MakeClient.{seed_of}

abbrev pub migrate_of : List (List ℕ) → Option Command
migrate_of (mask_seed ∷ input ∷ out ∷ []) = option_map (λ mask. Migrate mask input out) (seed_of mask_seed)
migrate_of _ = None

abbrev pub migrate_server_refused : List ℕ → List ℕ → Result ServerWords CodecFault → Option Report
migrate_server_refused mask_seed input (Err fault) = malformed_binary input fault
migrate_server_refused mask_seed input (Ok k) = option_map (wrong_mask input) (wrong_server_mask mask_seed k)

abbrev pub migrate_cipher_refused : List ℕ → List ℕ → Result Cipher CodecFault → Option Report
migrate_cipher_refused mask_seed input (Err fault) = malformed_binary input fault
migrate_cipher_refused mask_seed input (Ok c) = option_map (wrong_mask input) (wrong_cipher_mask mask_seed c)

-- What refuses: the file, as a version 1 server file where it begins as one, and else as a version 1 ciphertext file; then the
-- first mask word that the seed does not draw.
abbrev pub migrate_refusal : List ℕ → List ℕ → List (List ℕ) → Option Report
migrate_refusal mask_seed input (file ∷ []) =
    if begins file (codes "RXS1") then migrate_server_refused mask_seed input (server_from file)
    else migrate_cipher_refused mask_seed input (cipher_from file)
migrate_refusal mask_seed input _ = None

-- the bytes are the seeded file of the mask seed and of the value whose version 1 file this is
abbrev pub IsMigrated : List ℕ → List ℕ → List ℕ → Type 0
IsMigrated mask_seed file bytes =
    ((k : ServerWords) × ServerFile file k × SeededServer bytes mask_seed k)
    ⊎ ((c : Cipher) × CipherFile file c × SeededCipher bytes mask_seed c)

abbrev pub MigrateDoes : List ℕ → List ℕ → List (List ℕ) → List (List ℕ × List ℕ) → List ℕ → Type 0
MigrateDoes mask_seed out (file ∷ []) writes lines =
    (bytes : List ℕ) × IsMigrated mask_seed file bytes × (writes ≡ (out, bytes) ∷ []) × (lines ≡ [])
MigrateDoes mask_seed out _ writes lines = ⊥
